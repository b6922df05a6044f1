-- `solve::search_task` meets its contract: the search works on the words that it needs, which are zero behind it. Assumes nothing.
use Rattle.std.proofs.Common.{◌≡◌, sym, ◌∙◌, arith, ◌+◌, ◌*◌, ◌≤◌, length, get_or, take, length-append, length-take-le}
use Rattle.tables.specs.Fit.{row_of}
use Rattle.solve.specs.Solve.{table_words}
use Rattle.solve.specs.Solve.Answers.{words_is, words_few, search_is}
use Rattle.solve.proofs.search_task.Goals as goal
use Rattle.solve.proofs.search_task.Goals.{Start}

-- the words that the nodes need
words : (s : Start) → (s.args.nodes + 1) * (40 + get_or s.args.bases s.args.task.now.leaves 0) ≡ table_words s.args.task.now s.args.nodes
words s = words_is s.args.task.now s.args.bases s.requires.bases.0 s.args.nodes

few : (s : Start) → table_words s.args.task.now s.args.nodes ≤ 4359208
few s = words_few s.args.task.now s.requires.valid s.args.nodes s.requires.bases.2

-- the front of the table has so many
front : (s : Start) → let n = (s.args.nodes + 1) * (40 + get_or s.args.bases s.args.task.now.leaves 0) in length (take n s.args.table.now) ≡ n
front s = length-take-le _ s.args.table.now (omega (arith, words s, s.requires.bases.3))

pub overflow_add-words-2 : goal.overflow_add-words-2
overflow_add-words-2 c = omega (arith, row_of c.args.task.now c.args.bases c.requires.bases.0, c.requires.valid.whole.few_all_states)

pub overflow_mul-words : goal.overflow_mul-words
overflow_mul-words c = omega (arith, words (goal.at.overflow_mul-words c).Start, few (goal.at.overflow_mul-words c).Start)

pub slice_bounds-search_tables-end : goal.slice_bounds-search_tables-end
slice_bounds-search_tables-end c = omega (arith, words (goal.at.slice_bounds-search_tables-end c).Start, c.requires.bases.3)

pub slice_bounds-search_tables-end-2 : goal.slice_bounds-search_tables-end-2
slice_bounds-search_tables-end-2 c = sym (front (goal.at.slice_bounds-search_tables-end-2 c).Start)

pub search_tables-answer-requires : goal.search_tables-answer-requires
search_tables-answer-requires c = record { valid = c.requires.valid; bases = (c.requires.bases.0, c.requires.bases.1, c.requires.bases.2, omega (arith, words (goal.at.search_tables-answer-requires c).Start, front (goal.at.search_tables-answer-requires c).Start)) }

pub zero_words-requires : goal.zero_words-requires
zero_words-requires c =
    let t = c.search_tables-answer in
    let kept : length t.new.table ≡ length (take ((c.args.nodes + 1) * (40 + get_or c.args.bases c.args.task.now.leaves 0)) c.args.table.now) = t.auto.table in
    simp length-append (omega (arith, kept, front (goal.at.zero_words-requires c).Start))

pub returns : goal.returns
returns c =
    let t = c.search_tables-answer in
    let kept : length t.new.table ≡ length (take ((c.args.nodes + 1) * (40 + get_or c.args.bases c.args.task.now.leaves 0)) c.args.table.now) = t.auto.table in
    search_is c.args.task.now c.args.nodes c.args.budget c.args.plan.now c.args.table.now t.result t.new.plan t.new.table
    _ (words (goal.at.returns c).Start) (kept ∙ front (goal.at.returns c).Start) t.ensures _ c.zero_words.ensures
