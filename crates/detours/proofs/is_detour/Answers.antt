-- `detours::is_detour` meets its contract: each answer is that of the test. Assumes nothing.
use Rattle.std.proofs.Common.{◌+◌, ◌-◌, ◌*◌, ◌%◌, arith, get_or}
use Rattle.detours.specs.Detours.Laws.{detour_word, detour_other, detour_back, detour_none, detour_way}
use Rattle.detours.proofs.is_detour.Goals as goal

pub returns-then-word-eq0 : goal.returns-then-word-eq0
returns-then-word-eq0 c =
    let a = c.args in
    detour_word a.hops.now a.ways.now a.costs.now a.from a.c a.k c.if-word-eq0.true

pub returns-then-from-g : goal.returns-then-from-g
returns-then-from-g c =
    let a = c.args in
    detour_other a.hops.now a.ways.now a.costs.now a.from a.c a.k c.if-word-eq0.false c.if-from-g.true

pub returns-then-from-into : goal.returns-then-from-into
returns-then-from-into c =
    let a = c.args in
    detour_back a.hops.now a.ways.now a.costs.now a.from a.c a.k c.if-word-eq0.false c.if-from-g.false c.if-from-into.true

pub overflow_cast-way : goal.overflow_cast-way
overflow_cast-way c =
    let a = c.args in
    omega (arith, c.type_inv.ways (a.from * 16 + (get_or a.hops.now a.k 0 - 1) % 16))

pub returns-then-way-eq0 : goal.returns-then-way-eq0
returns-then-way-eq0 c =
    let a = c.args in
    detour_none a.hops.now a.ways.now a.costs.now a.from a.c a.k
    c.if-word-eq0.false c.if-from-g.false c.if-from-into.false c.if-way-eq0.true

pub offset_bounds-costs-way : goal.offset_bounds-costs-way
offset_bounds-costs-way c =
    let a = c.args in
    omega (arith, c.type_inv.ways (a.from * 16 + (get_or a.hops.now a.k 0 - 1) % 16))

pub bounds-costs-way : goal.bounds-costs-way
bounds-costs-way c =
    let a = c.args in
    omega (arith, c.type_inv.ways (a.from * 16 + (get_or a.hops.now a.k 0 - 1) % 16))

pub overflow_cast-result : goal.overflow_cast-result
overflow_cast-result c =
    let a = c.args in
    omega (arith, c.type_inv.costs (get_or a.ways.now (a.from * 16 + (get_or a.hops.now a.k 0 - 1) % 16) 0 - 1))

pub overflow_cast-result-3 : goal.overflow_cast-result-3
overflow_cast-result-3 c =
    let a = c.args in
    omega (arith, c.type_inv.costs a.k)

pub overflow_add-result : goal.overflow_add-result
overflow_add-result c =
    omega (arith, c.ranges.c, c.type_inv.costs c.args.k)

pub returns : goal.returns
returns c =
    let a = c.args in
    detour_way a.hops.now a.ways.now a.costs.now a.from a.c a.k
    c.if-word-eq0.false c.if-from-g.false
    c.if-from-into.false c.if-way-eq0.false
