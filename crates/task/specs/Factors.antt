-- Factors: centre and leaf actions, leaf states by their numbers, the centre state. Follows "The task" and section 3.1 of document 000.
use Rattle.std.specs.Prelude.{Bool, true, false, cond, not, ◌&&◌, ◌||◌, List, [], ◌∷◌, ℕ, zero, suc, ◌+◌, ◌*◌, ◌/◌, ◌%◌, eqb}
use Rattle.loops.specs.Count.{all, any, sum}
use Rattle.task.specs.declared.Task.{Task}
use Rattle.task.specs.Meaning.{State, Partial, free, size, factor, condition, effect, cost, met, put}

-- the partial assignment has a pair here
abbrev pub named : ℕ → Bool
named x = not (eqb x free)

-- ---- by the number of variables and their factors

-- the partial assignment names a variable of factor g
unfoldable pub touches : ℕ → (ℕ → ℕ) → ℕ → Partial → Bool
touches n fac g p = any n (λ v. eqb (fac v) g && named (p v))

-- it names variables of factors g and h alone
unfoldable pub within : ℕ → (ℕ → ℕ) → ℕ → ℕ → Partial → Bool
within n fac g h p = all n (λ v. not (named (p v)) || (eqb (fac v) g || eqb (fac v) h))

-- its pairs on variables of factor g hold
unfoldable pub holds_in : ℕ → (ℕ → ℕ) → ℕ → Partial → State → Bool
holds_in n fac g p s = all n (λ v. not (eqb (fac v) g) || met (p v) (s v))

-- "all its effects lie in one leaf, its conditions in that leaf or the centre": conditions p and effects q, leaf l
unfoldable pub leaf_pairs : ℕ → (ℕ → ℕ) → Partial → Partial → ℕ → Bool
leaf_pairs n fac p q l = within n fac l l q && within n fac l 0 p

-- "every action either affects the centre, or it affects only a single leaf and has preconditions only on that same leaf and/or the centre"
unfoldable pub star_pairs : ℕ → (ℕ → ℕ) → ℕ → Partial → Partial → Bool
star_pairs n fac leaves p q = touches n fac 0 q || any leaves (λ i. leaf_pairs n fac p q (suc i))

-- "mixed-radix: variables in rising number, the first most significant": the number that the variables of factor g below n give
unfoldable pub number_to : (ℕ → ℕ) → (ℕ → ℕ) → ℕ → State → ℕ → ℕ
number_to fac siz g s zero = 0
number_to fac siz g s (suc v) = cond (eqb (fac v) g) (number_to fac siz g s v * siz v + s v) (number_to fac siz g s v)

-- "the product of its variables' sizes", of the variables below n
unfoldable pub states_to : (ℕ → ℕ) → (ℕ → ℕ) → ℕ → ℕ → ℕ
states_to fac siz g zero = 1
states_to fac siz g (suc v) = cond (eqb (fac v) g) (states_to fac siz g v * siz v) (states_to fac siz g v)

-- the value of variable v in state x of factor g: x's digit there
unfoldable pub digit_to : (ℕ → ℕ) → (ℕ → ℕ) → ℕ → ℕ → ℕ → ℕ → ℕ
digit_to fac siz g x v zero = 0
digit_to fac siz g x v (suc n) =
    cond (eqb (fac n) g) (cond (eqb n v) (x % siz n) (digit_to fac siz g (x / siz n) v n)) (digit_to fac siz g x v n)

-- ---- of a task

-- "A centre action has an effect on the centre; it may also name any leaves."
unfoldable pub centre_action : Task → ℕ → Bool
centre_action t a = touches t.variables (factor t) 0 (effect t a)

-- "Any other action is a leaf action": the pairs of action a are those of a leaf action of leaf l
unfoldable pub leaf_action : Task → ℕ → ℕ → Bool
leaf_action t a l = leaf_pairs t.variables (factor t) (condition t a) (effect t a) l

-- a leaf state's number
unfoldable pub number : Task → ℕ → State → ℕ
number t l s = number_to (factor t) (size t) l s t.variables

-- how many states a leaf has
unfoldable pub states : Task → ℕ → ℕ
states t l = states_to (factor t) (size t) l t.variables

-- S: the states of all leaves together
unfoldable pub all_states : Task → ℕ
all_states t = sum t.leaves (λ i. states t (suc i))

-- the values of leaf l's variables in its state x
unfoldable pub values_of : Task → ℕ → ℕ → State
values_of t l x v = digit_to (factor t) (size t) l x v t.variables

-- its conditions on factor g hold in the state
unfoldable pub meets_in : Task → ℕ → Partial → State → Bool
meets_in t g p s = holds_in t.variables (factor t) g p s

-- a number plus one where the test passes, and 0 where it fails
abbrev pub gate : Bool → ℕ → ℕ
gate true y = suc y
gate false y = 0

-- what action a makes of state x of leaf l: 0 where its conditions on the leaf do not hold, else one more than the next state's number.
-- Two conditions on one leaf are met by one leaf state: they are tested together.
unfoldable pub to : Task → ℕ → ℕ → ℕ → ℕ
to t l a x = gate (meets_in t l (condition t a) (values_of t l x)) (number t l (put (effect t a) (values_of t l x)))

-- the state with the centre's values of c and leaf l in state xs l
unfoldable pub assemble : Task → State → (ℕ → ℕ) → State
assemble t c xs v = cond (eqb (factor t v) 0) (c v) (values_of t (factor t v) (xs (factor t v)) v)

-- ---- sequences

-- the centre actions of a sequence, in their order
unfoldable pub centre_actions : Task → List ℕ → List ℕ
centre_actions t [] = []
centre_actions t (a ∷ acts) = cond (centre_action t a) (a ∷ centre_actions t acts) (centre_actions t acts)

-- what its leaf actions cost
unfoldable pub leaf_cost : Task → List ℕ → ℕ
leaf_cost t [] = 0
leaf_cost t (a ∷ acts) = cond (centre_action t a) (leaf_cost t acts) (cost t a + leaf_cost t acts)
