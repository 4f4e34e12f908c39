use Rattle.image.proofs.Field.{payload_fresh, payload_stale, payload_items}
use Rattle.image.proofs.payload_end.Goals as goal

pub returns-then-tag-ne1 : goal.returns-then-tag-ne1
returns-then-tag-ne1 c = payload_items _ _ _ _ _ c.if-tag-ne1.true c.items_end.ensures

pub returns-then-is_fresh : goal.returns-then-is_fresh
returns-then-is_fresh c = payload_fresh _ _ _ _ _ c.if-tag-ne1.false c.is_fresh.ensures c.if-is_fresh.true

pub returns-else-is_fresh : goal.returns-else-is_fresh
returns-else-is_fresh c = payload_stale _ _ _ _ _ c.if-tag-ne1.false c.is_fresh.ensures c.if-is_fresh.false
