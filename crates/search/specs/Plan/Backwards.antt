-- The plan walked from its end: each node's layer from the last leaf's last action to the first leaf's first, then the centre action that led to
-- the node, then the same at its parent. Read from its end this is the plan. Assumes nothing.
use Rattle.std.specs.Prelude.{◌≡◌, refl, ℕ, zero, suc, ◌≤◌, ◌<◌, length, get_or}
use Rattle.std.proofs.Common.{sym, ap, ap₂, ◌∙◌, arith}
use mathlib.Core.List.{List, [], ◌∷◌, ◌++◌, reverse, append_assoc, reverse-cons, reverse-append, reverse-reverse}
use Rattle.std.proofs.Math.Seq.{append_snoc}
use Rattle.task.specs.declared.Task.{Task}
use Rattle.layer.specs.Layer.{joined}
use Rattle.layer.specs.Board.Laws.{joined_ext}
use Rattle.price.specs.Ways.{weave}
use Rattle.search.specs.Explore.{Search, node_at}
use Rattle.search.specs.Plan.{back_in, over, stages, path_to, goal_state, plan_of}
use Rattle.search.specs.Plan.Staged.{stages_before, stages_last}
use Rattle.search.specs.Plan.Stages.{stages_length}

-- the actions of node u's layer in the leaves below i, from the last to the first; leaf j ends the layer in state ys j
unfoldable pub layer_back : Task → Search → ℕ → (ℕ → ℕ) → ℕ → List ℕ
layer_back t s u ys zero = []
layer_back t s u ys (suc i) = reverse (back_in t s i u (ys i)).acts ++ layer_back t s u ys i

-- the states in which the leaves end the layer of u's parent
abbrev pub states_before : Task → Search → ℕ → (ℕ → ℕ) → ℕ → ℕ
states_before t s u ys i = over t s i u (back_in t s i u (ys i)).from

-- the plan's actions from the last to the first, where the leaves end in the states ys of node u; the number of the node is fuel enough
unfoldable pub plan_back : Task → Search → ℕ → ℕ → (ℕ → ℕ) → List ℕ
plan_back t s zero u ys = layer_back t s u ys t.leaves
plan_back t s (suc fuel) u ys =
    elim u [
      | zero ↦ layer_back t s 0 ys t.leaves
      | suc v ↦
          layer_back t s (suc v) ys t.leaves ++
          ((node_at t s (suc v)).action ∷ plan_back t s fuel (node_at t s (suc v)).parent (states_before t s (suc v) ys))
    ]

-- ---- its cases

-- node 0 has no action before its layer
pub plan_back_last : (t : Task) (s : Search) (fuel : ℕ) (ys : ℕ → ℕ) → plan_back t s fuel 0 ys ≡ layer_back t s 0 ys t.leaves
unfolding plan_back
plan_back_last t s zero ys = refl
plan_back_last t s (suc fuel) ys = refl

-- another node has its centre action, and what is before it at its parent
pub plan_back_more : (t : Task) (s : Search) (fuel v : ℕ) (ys : ℕ → ℕ)
    → plan_back t s (suc fuel) (suc v) ys ≡
    layer_back t s (suc v) ys t.leaves ++ ((node_at t s (suc v)).action ∷ plan_back t s fuel (node_at t s (suc v)).parent (states_before t s (suc v) ys))
unfolding plan_back
plan_back_more t s fuel v ys = refl

-- ---- only the states of the leaves there are count

-- a layer depends on the states of the leaves below n
pub layer_back_ext : (t : Task) (s : Search) (u : ℕ) (ys zs : ℕ → ℕ) (n : ℕ) → ((i : ℕ) → i < n → ys i ≡ zs i)
    → layer_back t s u ys n ≡ layer_back t s u zs n
unfolding layer_back
layer_back_ext t s u ys zs zero h = refl
layer_back_ext t s u ys zs (suc n) h = rw (h n (omega arith), layer_back_ext t s u ys zs n (λ i l. h i (omega arith)))

-- the whole on those of all leaves
pub plan_back_ext : (t : Task) (s : Search) (fuel u : ℕ) (ys zs : ℕ → ℕ) → ((i : ℕ) → i < t.leaves → ys i ≡ zs i)
    → plan_back t s fuel u ys ≡ plan_back t s fuel u zs
unfolding plan_back
plan_back_ext t s zero u ys zs h = layer_back_ext t s u ys zs t.leaves h
plan_back_ext t s (suc fuel) zero ys zs h = layer_back_ext t s 0 ys zs t.leaves h
plan_back_ext t s (suc fuel) (suc v) ys zs h =
    ap₂ {C = List ℕ} (λ xs rest. xs ++ ((node_at t s (suc v)).action ∷ rest)) (layer_back_ext t s (suc v) ys zs t.leaves h)
    (plan_back_ext t s fuel (node_at t s (suc v)).parent (states_before t s (suc v) ys) (states_before t s (suc v) zs)
    (λ i l. ap (λ (y : ℕ). over t s i (suc v) (back_in t s i (suc v) y).from) (h i l)))

-- ---- from its end it is the plan

-- a layer: the leaves' actions in turn
layer_back_lem : (t : Task) (s : Search) (u : ℕ) (ys : ℕ → ℕ) (n : ℕ) → reverse (layer_back t s u ys n) ≡ joined n (λ i. (back_in t s i u (ys i)).acts)
unfolding layer_back joined
layer_back_lem t s u ys zero = refl
layer_back_lem t s u ys (suc n) =
    let xs = (back_in t s n u (ys n)).acts in
    reverse-append (reverse xs) (layer_back t s u ys n) ∙ ap₂ ◌++◌ (layer_back_lem t s u ys n) (reverse-reverse xs)

-- one more centre action: what is woven so far, the action, and the layer behind it
weave_snoc : (n : ℕ) (f g : ℕ → ℕ → List ℕ) (p : List ℕ) (a : ℕ) → ((k : ℕ) → k ≤ length p → (i : ℕ) → g k i ≡ f k i)
    → weave n g (p ++ (a ∷ [])) ≡ weave n f p ++ (a ∷ joined n (g (suc (length p))))
unfolding weave
weave_snoc n f g [] a h = rw (joined_ext n (g 0) (f 0) (λ i l. h 0 (omega arith) i))
weave_snoc n f g (b ∷ p) a h =
    let rest = weave_snoc n (λ k. f (suc k)) (λ k. g (suc k)) p a (λ k l. h (suc k) (omega arith)) in
    rw (joined_ext n (g 0) (f 0) (λ i l. h 0 (omega arith) i), rest, append_assoc)

-- so where each leaf has its list of stages, and one stage more
weave_more : (n : ℕ) (xs : ℕ → List (List ℕ)) (zs : ℕ → List ℕ) (p : List ℕ) (a : ℕ) → ((i : ℕ) → length (xs i) ≡ suc (length p))
    → weave n (λ k i. get_or (xs i ++ (zs i ∷ [])) k []) (p ++ (a ∷ [])) ≡ weave n (λ k i. get_or (xs i) k []) p ++ (a ∷ joined n zs)
weave_more n xs zs p a h =
    weave_snoc n (λ k i. get_or (xs i) k []) (λ k i. get_or (xs i ++ (zs i ∷ [])) k []) p a (λ k l i. stages_before (xs i) (zs i) (length p) k (h i) l)
    ∙ ap (λ (layer : List ℕ). weave n (λ k i. get_or (xs i) k []) p ++ (a ∷ layer))
    (joined_ext n (λ i. get_or (xs i ++ (zs i ∷ [])) (suc (length p)) []) zs (λ i l. stages_last (xs i) (zs i) (length p) (h i)))

-- from the end: what is before the action, the action, and its layer
ends : (xs ys : List ℕ) (a : ℕ) → reverse (xs ++ (a ∷ ys)) ≡ reverse ys ++ (a ∷ reverse xs)
ends xs ys a = reverse-append xs (a ∷ ys) ∙ ap (λ (zs : List ℕ). zs ++ reverse xs) (reverse-cons a ys) ∙ append_snoc (reverse ys) a (reverse xs)

-- with any fuel and any states, from its end it is the leaves' stages along the path
back_woven : (t : Task) (s : Search) (fuel u : ℕ) (ys : ℕ → ℕ)
    → reverse (plan_back t s fuel u ys) ≡ weave t.leaves (λ k i. get_or (stages t s i fuel u (ys i)) k []) (path_to t s fuel u)
unfolding plan_back weave stages path_to
back_woven t s zero u ys = layer_back_lem t s u ys t.leaves
back_woven t s (suc fuel) zero ys = layer_back_lem t s 0 ys t.leaves
back_woven t s (suc fuel) (suc v) ys =
    let n = node_at t s (suc v) in
    let zs = states_before t s (suc v) ys in
    let p = path_to t s fuel n.parent in
    ends (layer_back t s (suc v) ys t.leaves) (plan_back t s fuel n.parent zs) n.action
    ∙ ap₂ {C = List ℕ} (λ before layer. before ++ (n.action ∷ layer)) (back_woven t s fuel n.parent zs) (layer_back_lem t s (suc v) ys t.leaves)
    ∙ sym (weave_more t.leaves (λ i. stages t s i fuel n.parent (zs i)) (λ i. (back_in t s i (suc v) (ys i)).acts) p n.action
    (λ i. stages_length t s i fuel n.parent (zs i)))

-- from the goal states of a node, from its end it is the node's plan
pub plan_back_lem : (t : Task) (s : Search) (u : ℕ) → reverse (plan_back t s u u (λ i. goal_state t s i u)) ≡ plan_of t s u
unfolding plan_of
plan_back_lem t s u = back_woven t s u u (λ i. goal_state t s i u)
