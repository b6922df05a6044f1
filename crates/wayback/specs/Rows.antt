-- Laws of a part of a list. Assumes nothing.
use Rattle.std.specs.Prelude.{◌≡◌, ◌&&◌, List, ℕ, suc, ◌+◌, ◌-◌, ◌<◌, eqb, get_or, take, drop}
use Rattle.std.proofs.Common.{arith, get_or-take, get_or-drop}
use Rattle.leaf.specs.Price.{mark}
use Rattle.search.specs.Plan.{lowest}
use Rattle.wayback.specs.Lowest.{lowest_ext}

-- the lowest state of depth k that a part, which begins at a, leads to y
pub lowest_part : (table : List ℕ) (a n : ℕ) (D : List ℕ) (k y : ℕ)
    → lowest n (λ x. eqb (get_or (take (a + n - a) (drop a table)) x 0) (suc y) && eqb (get_or D x mark) k)
    ≡ lowest n (λ x. eqb (get_or table (a + x) 0) (suc y) && eqb (get_or D x mark) k)
lowest_part table a n D k y = lowest_ext n _ _ (λ x h. rw (part_at x h))
  where
    part_at : (x : ℕ) → x < n → get_or (take (a + n - a) (drop a table)) x 0 ≡ get_or table (a + x) 0
    part_at x h = let l : x < a + n - a = omega arith in rw (get_or-take, get_or-drop)
