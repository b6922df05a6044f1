-- Nodes of centre paths: the path of a node, and what follows for its layer. Assumes nothing.
use Rattle.std.specs.Prelude.{◌≡◌, refl, ◌⊎◌, true, ℕ, suc, ◌*◌, ◌≤◌, ◌<◌, length, get_or}
use Rattle.std.proofs.Common.{sym, ◌∙◌, inl, inr, arith}
use mathlib.Core.List.{List, [], ◌∷◌, ◌++◌}
use Rattle.std.proofs.Math.ListN.{length-append, get_or-append}
use Rattle.std.proofs.lemmas.List.{get_or_at}
use Rattle.loops.specs.Count.Laws.{below_cases, list_length}
use Rattle.task.specs.declared.Task.{Task}
use Rattle.task.specs.Meaning.{cost_of}
use Rattle.task.specs.Factors.{centre_action}
use Rattle.task.specs.Centre.{centre_of, centre_after}
use Rattle.task.specs.Valid.{Valid}
use Rattle.layer.specs.Layer.{applies_to}
use Rattle.price.specs.Path.{first_layer, next_layer, ends, walk}
use Rattle.price.specs.Path.Laws.{walk_append, walk_next, rise, first_settled}
use Rattle.price.specs.Sequences.{cost_of_snoc}
use Rattle.price.specs.Prices.{Centred, walk_settled, path_small}
use Rattle.search.specs.Node.{Node, first_node, next_node}
use Rattle.search.specs.Cover.{layer_of, Sound}

-- the node is that of a centre path of at most u actions
pub record Made (t : Task) (u : ℕ) (n : Node) : Type 0 where
  pub path : List ℕ
  pub centred : Centred t path
  pub short : length path ≤ u
  pub walked : walk t (first_layer t) path ≡ ends (layer_of n)
  pub spent : n.paid ≡ cost_of t path
  pub wide : length n.spot.values ≡ 32

module _ (t : Task) where
  -- node 0 is the node of the empty path
  pub made_first : Made t 0 (first_node t)
  unfolding first_node walk cost_of centre_of
  made_first = record { path = []; centred = λ k l. absurd (omega arith); short = omega arith; walked = refl; spent = refl; wide = list_length 32 _ }

  -- a path with one centre action more
  centred_snoc : (p : List ℕ) (a : ℕ) → Centred t p → a < t.actions → centre_action t a ≡ true → Centred t (p ++ (a ∷ []))
  centred_snoc p a c h e k l = go (below_cases (omega (arith, length-append p (a ∷ []))))
    where
      go : (k < length p) ⊎ (k ≡ length p) → (get_or (p ++ (a ∷ [])) k 0 < t.actions) × (centre_action t (get_or (p ++ (a ∷ [])) k 0) ≡ true)
      go (inl m) = rw (get_or-append p (a ∷ []) 0 k m) (c k m)
      go (inr q) = rw (get_or_at p a [] 0 k (sym q)) (h, e)

  -- the node that a centre action makes is the node of the path with that action
  pub made_next : (u v w : ℕ) (n : Node) (a : ℕ) → u < v → a < t.actions → centre_action t a ≡ true → applies_to t n.spot n.prices a ≡ true → Made t u n
      → Made t v (next_node t w n a)
  unfolding next_node next_layer walk centre_after
  made_next u v w n a l h e f m =
      record {
        path = m.path ++ (a ∷ []);
        centred = centred_snoc m.path a m.centred h e;
        short = omega (arith, length-append m.path (a ∷ []), m.short);
        walked = walk_append t m.path (a ∷ []) (first_layer t) m.walked ∙ walk_next t (layer_of n) a [] f;
        spent = omega (arith, m.spent, cost_of_snoc t m.path a);
        wide = list_length 32 _;
      }

  -- the layer of such a node is settled, and its prices are small
  pub made_sound : Valid t → (u : ℕ) (n : Node) → Made t u n → Sound t (suc u * rise) n
  made_sound ok u n m =
      record {
        wide = m.wide;
        settled = walk_settled t ok m.path (first_layer t) (layer_of n) (first_settled t ok) m.walked;
        small = λ i b x h. omega (arith, path_small t ok m.path (layer_of n) m.walked i b x h, m.short);
      }
