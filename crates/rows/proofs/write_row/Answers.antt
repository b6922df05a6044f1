-- `rows::write_row` meets its contract: the parts of the node and its packs stand at their places in the row. Assumes nothing.
use Rattle.std.proofs.Common.{◌≡◌, ℕ, length, get_or, rules, w8, Fits}
use Rattle.rows.specs.Row.Laws.{node_written, packs_written, sign_written, unused_kept}
use Rattle.rows.proofs.write_row.Goals as goal

pub returns : goal.returns
returns c =
    let a = c.args in
    let wide : length a.spot.values ≡ 32 = search rules in
    let small : (v : ℕ) → Fits w8 (get_or a.spot.values v 0) = λ v. search rules in (
      node_written a.states a.paid a.parent a.action a.sign a.spot a.row.now _ _ _ _ a.prices.now wide (λ v. (small v).fits)
          c.requires.0 c.requires.1 c.write_packs.ensures c.copy_words.ensures,
      packs_written a.states a.paid a.parent a.action a.sign a.spot a.row.now _ _ _ _ a.prices.now wide (λ v. (small v).fits)
          c.requires.0 c.requires.1 c.write_packs.ensures c.copy_words.ensures,
      sign_written a.states a.paid a.parent a.action a.sign a.spot a.row.now _ _ _ _ a.prices.now wide (λ v. (small v).fits)
          c.requires.0 c.requires.1 c.write_packs.ensures c.copy_words.ensures,
      unused_kept a.states a.paid a.parent a.action a.sign a.spot a.row.now _ _ _ _ a.prices.now wide (λ v. (small v).fits)
          c.requires.0 c.requires.1 c.write_packs.ensures c.copy_words.ensures,
    )
