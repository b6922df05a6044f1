-- `detours::hop_behind` meets its contract: the parent's row lies within the table. Assumes nothing.
use Rattle.std.proofs.Common.{◌≡◌, cond, ◌&&◌, ◌+◌, ◌-◌, ◌*◌, ◌≤◌, arith, ltb, length, get_or, take, drop, lt-ltb, le-ltb}
use Rattle.loops.specs.Count.Laws.{told}
use Rattle.detours.specs.Detours.{same_front, hop_behind}
use Rattle.detours.specs.Detours.Laws.{row_before, hop_words, hop_none}
use Rattle.detours.proofs.hop_behind.Goals as goal
use Rattle.detours.proofs.hop_behind.Goals.{Else-word-eq0, Start}

-- the answer by the words of the table
words : (s : Start) → let a = s.args in
    let p = get_or a.table.now (a.u * (40 + a.states) + 33) 0 in
    let k = get_or a.table.now (a.u * (40 + a.states) + 34) 0 in
    let f = p * (40 + a.states) + 40 in
    hop_behind a.states a.actions a.table.now a.hops.now a.u a.prices.now
    ≡ cond (ltb a.states 128 && (ltb p a.u && (ltb k a.actions && same_front (take (f + a.states - f) (drop f a.table.now)) a.prices.now))) (get_or a.hops.now k 0) 0
words s = let a = s.args in hop_words a.states a.actions a.table.now a.hops.now a.u a.prices.now

-- where the parent's prices are compared: its row lies within the table
fits : (c : Else-word-eq0) → let a = c.args in
    get_or a.table.now (a.u * (40 + a.states) + 33) 0 * (40 + a.states) + (40 + a.states) ≤ length a.table.now
fits c =
    row_before c.args.states c.args.u _ c.args.table.now c.if-parent-u.false c.requires.2

pub returns-then-states-ge128 : goal.returns-then-states-ge128
returns-then-states-ge128 c =
    rw (words (goal.at.returns-then-states-ge128 c).Start, le-ltb c.args.states 128 c.if-states-ge128.true)

pub returns-then-parent-u : goal.returns-then-parent-u
returns-then-parent-u c = rw (words (goal.at.returns-then-parent-u c).Start, lt-ltb _ _ c.if-states-ge128.false, le-ltb _ _ c.if-parent-u.true)

pub returns-then-action-actions : goal.returns-then-action-actions
returns-then-action-actions c = rw (words (goal.at.returns-then-action-actions c).Start, lt-ltb _ _ c.if-states-ge128.false, lt-ltb _ _ c.if-parent-u.false, le-ltb _ _ c.if-action-actions.true)

pub overflow_mul-from : goal.overflow_mul-from
overflow_mul-from c = omega (arith, fits (goal.at.overflow_mul-from c).Else-word-eq0, c.well_formed)

pub overflow_add-from : goal.overflow_add-from
overflow_add-from c = omega (arith, fits (goal.at.overflow_add-from c).Else-word-eq0, c.well_formed)

pub overflow_add-end : goal.overflow_add-end
overflow_add-end c = omega (arith, fits (goal.at.overflow_add-end c).Else-word-eq0, c.well_formed)

pub offset_bounds-table-from : goal.offset_bounds-table-from
offset_bounds-table-from c = omega (arith, fits (goal.at.offset_bounds-table-from c).Else-word-eq0, c.well_formed)

pub slice_bounds-same_words-end : goal.slice_bounds-same_words-end
slice_bounds-same_words-end c = omega (arith, fits (goal.at.slice_bounds-same_words-end c).Else-word-eq0)

pub returns-then-word-eq0 : goal.returns-then-word-eq0
returns-then-word-eq0 c =
    let a = c.args in
    hop_none a.states a.actions a.table.now a.hops.now a.u a.prices.now c.if-word-eq0.true

pub returns-then-not-same_words : goal.returns-then-not-same_words
returns-then-not-same_words c =
    rw (words (goal.at.returns-then-not-same_words c).Start, lt-ltb _ _ c.if-states-ge128.false, lt-ltb _ _ c.if-parent-u.false, lt-ltb _ _ c.if-action-actions.false, told c.same_words.ensures c.if-not-same_words.true)

pub returns : goal.returns
returns c =
    rw (words (goal.at.returns c).Start, lt-ltb _ _ c.if-states-ge128.false, lt-ltb _ _ c.if-parent-u.false, lt-ltb _ _ c.if-action-actions.false, told c.same_words.ensures c.if-not-same_words.false)
