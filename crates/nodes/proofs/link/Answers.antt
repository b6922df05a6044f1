-- `nodes::link` meets its contract: the node's key is stored, and it joins the group of its class. Assumes nothing.
use Rattle.std.proofs.Common.{◌∙◌, rules}
use Rattle.nodes.specs.Chain.{linked_to}
use Rattle.nodes.specs.Chain.Groups.{group_lt}
use Rattle.nodes.proofs.link.Goals as goal

pub join-requires : goal.join-requires
join-requires c = (rw c.group_for-group.ensures.0 (group_lt _ _), search rules)

pub returns : goal.returns
unfolding linked_to
returns c = c.join.ensures ∙ rw (c.group_for-group.ensures.0, c.group_for-group.ensures.1, c.set_key.ensures)
