-- `nodes::has_room` meets its contract. Assumes nothing.
use Rattle.std.proofs.Common.{sym}
use Rattle.nodes.specs.Chain.Groups.{room_none, room_some}
use Rattle.nodes.proofs.has_room.Goals as goal

pub returns-then-head-eq0 : goal.returns-then-head-eq0
returns-then-head-eq0 c = let a = c.args in sym (room_none a.scan.now a.head c.if-head-eq0.true)

pub returns : goal.returns
returns c = let a = c.args in sym (room_some a.scan.now a.head c.if-head-eq0.false)
