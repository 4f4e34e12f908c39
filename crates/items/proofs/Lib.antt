pub mod Numbers
pub mod NodeLaws
pub mod Laws
