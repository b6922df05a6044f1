-- The walk back looks at a search only through its nodes: searches with the same nodes have the same plans. Assumes nothing.
use Rattle.std.specs.Prelude.{◌≡◌, List, [], get_or}
use Rattle.std.proofs.Math.Path.{refl, ap}
use Rattle.std.proofs.Common.{sym, ◌∙◌}
use Prim.Native.Nat.{ℕ, zero, suc}
use Rattle.task.specs.declared.Task.{Task}
use Rattle.leaf.specs.Price.{mark}
use Rattle.layer.specs.Layer.{enabled, leaf_part}
use Rattle.search.specs.Node.{Node}
use Rattle.search.specs.Explore.{Search, node_at}
use Rattle.search.specs.Plan.{Back, depths, back, begins, back_in, over, stages, path_to, goal_state, plan_of}
use Rattle.search.specs.Plan.Real.{Real}

-- a search with these nodes
abbrev pub bare : List Node → Search
bare nodes = record { kept = nodes; done = []; begun = 0; best = 0 }

module _ (t : Task) (s : Search) where
  -- what a layer began with
  begins_bare : (i u : ℕ) → begins t s i u ≡ begins t (bare s.kept) i u
  unfolding begins
  begins_bare i zero = refl
  begins_bare i (suc u) = refl

  -- the way back inside a layer
  back_bare : (i u y : ℕ) → back_in t s i u y ≡ back_in t (bare s.kept) i u y
  unfolding back_in
  back_bare i u y =
      let P = leaf_part t i (node_at t s u).prices in
      let acts = enabled t (suc i) (node_at t s u).spot in
      ap {B = Back} (λ B. back t (suc i) acts P (depths t (suc i) acts B P) (get_or (depths t (suc i) acts B P) y mark) y) (begins_bare i u)

  -- a leaf's stages
  stages_bare : (i fuel u y : ℕ) → stages t s i fuel u y ≡ stages t (bare s.kept) i fuel u y
  unfolding stages over
  stages_bare i zero u y = rw (back_bare i u y)
  stages_bare i (suc fuel) zero y = rw (back_bare i 0 y)
  stages_bare i (suc fuel) (suc u) y = rw (back_bare i (suc u) y, stages_bare i fuel _ _)

  -- the centre actions
  path_bare : (fuel u : ℕ) → path_to t s fuel u ≡ path_to t (bare s.kept) fuel u
  unfolding path_to
  path_bare zero u = refl
  path_bare (suc fuel) zero = refl
  path_bare (suc fuel) (suc u) = rw (path_bare fuel _)

  -- the plan
  plan_bare : (u : ℕ) → plan_of t s u ≡ plan_of t (bare s.kept) u
  unfolding plan_of goal_state
  plan_bare u = simp (stages_bare, path_bare)

  -- every node was made from a node of a lower number
  real_bare : Real t s → Real t (bare s.kept)
  real_bare r =
      record { some = r.some; first = r.first; lower = r.lower; known = r.known; central = r.central; applied = r.applied; made = r.made }

-- the same nodes, the same plan
pub plan_kept : (t : Task) (s r : Search) (u : ℕ) → s.kept ≡ r.kept → plan_of t s u ≡ plan_of t r u
plan_kept t s r u e = plan_bare t s u ∙ ap (λ k. plan_of t (bare k) u) e ∙ sym (plan_bare t r u)

-- and the same that the walk back needs
pub real_kept : (t : Task) (s r : Search) → s.kept ≡ r.kept → Real t s → Real t r
real_kept t s r e h =
    let b : Real t (bare r.kept) = rw e at (real_bare t s h) in
    record { some = b.some; first = b.first; lower = b.lower; known = b.known; central = b.central; applied = b.applied; made = b.made }
