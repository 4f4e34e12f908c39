use Rattle.image.proofs.Keys.{key_told}
use Rattle.image.proofs.Field.{field_short, field_place, field_cut, field_over, field_bad, field_rest, field_whole}
use Rattle.image.proofs.field_end.Goals as goal

pub returns-then-left-lt3 : goal.returns-then-left-lt3
returns-then-left-lt3 c = field_short _ _ _ _ _ c.left.ensures c.if-left-lt3.true

pub returns-then-not-placed_tag : goal.returns-then-not-placed_tag
returns-then-not-placed_tag c = field_place _ _ _ _ _ c.left.ensures c.if-left-lt3.false _ c.byte_at-tag.ensures.0 _ c.placed_tag.ensures c.if-not-placed_tag.true

pub returns-then-left-len : goal.returns-then-left-len
returns-then-left-len c =
    field_cut _ _ _ _ _ c.left.ensures c.if-left-lt3.false _ c.byte_at-tag.ensures.0 _ c.placed_tag.ensures c.if-not-placed_tag.false
    _ c.two_at-len.ensures.0 _ c.left-2.ensures c.if-left-len.true

pub returns-then-not-within_tag : goal.returns-then-not-within_tag
returns-then-not-within_tag c =
    field_over _ _ _ _ _ c.left.ensures c.if-left-lt3.false _ c.byte_at-tag.ensures.0 _ c.placed_tag.ensures c.if-not-placed_tag.false
    _ c.two_at-len.ensures.0 _ c.left-2.ensures c.if-left-len.false _ c.within_tag.ensures c.if-not-within_tag.true

pub payload_end-requires : goal.payload_end-requires
payload_end-requires c = λ e. key_told _ _ _ _ _ c.byte_at-tag.ensures.0 c.load-p.ensures c.requires e

pub returns-in_err-m : goal.returns-in_err-m
returns-in_err-m c =
    field_bad _ _ _ _ _ c.left.ensures c.if-left-lt3.false _ c.byte_at-tag.ensures.0 _ c.placed_tag.ensures c.if-not-placed_tag.false
    _ c.two_at-len.ensures.0 _ c.left-2.ensures c.if-left-len.false _ c.within_tag.ensures c.if-not-within_tag.false
    _ c.load-p.ensures _ c.payload_end.ensures _ _ c.in_err-m.was c.from_residual.ensures.1

pub returns-then-m-p : goal.returns-then-m-p
returns-then-m-p c =
    field_whole _ _ _ _ _ c.left.ensures c.if-left-lt3.false _ c.byte_at-tag.ensures.0 _ c.placed_tag.ensures c.if-not-placed_tag.false
    _ c.two_at-len.ensures.0 _ c.left-2.ensures c.if-left-len.false _ c.within_tag.ensures c.if-not-within_tag.false
    _ c.load-p.ensures _ c.payload_end.ensures _ c.in_ok-m.was c.if-m-p.true

pub returns-else-m-p : goal.returns-else-m-p
returns-else-m-p c =
    field_rest _ _ _ _ _ c.left.ensures c.if-left-lt3.false _ c.byte_at-tag.ensures.0 _ c.placed_tag.ensures c.if-not-placed_tag.false
    _ c.two_at-len.ensures.0 _ c.left-2.ensures c.if-left-len.false _ c.within_tag.ensures c.if-not-within_tag.false
    _ c.load-p.ensures _ c.payload_end.ensures _ c.in_ok-m.was c.if-m-p.false
