-- `nodes::group_for` meets its contract. Assumes nothing.
use Rattle.std.proofs.Common.{sym, ◌∙◌}
use Rattle.loops.specs.Count.Laws.{told}
use Rattle.nodes.specs.Chain.Groups.{room_head, group_last, group_new}
use Rattle.nodes.proofs.group_for.Goals as goal

pub overflow_sub-result : goal.overflow_sub-result
overflow_sub-result c = let a = c.args in room_head a.scan.now _ (told c.has_room.ensures c.if-has_room.true)

pub returns-then-has_room : goal.returns-then-has_room
returns-then-has_room c =
    let a = c.args in
    let (x, y) = group_last a.scan.now a.class (told c.has_room.ensures c.if-has_room.true) in
    (sym x, sym y)

pub returns : goal.returns
returns c =
    let a = c.args in
    let (x, y) = group_new a.scan.now a.class (told c.has_room.ensures c.if-has_room.false) in
    (sym x, c.add_group.ensures ∙ sym y)
