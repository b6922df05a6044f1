-- Detours by the words of hops (`Hops` in `hops`): which hops behind a hop need no turn. Nobody but the code and its proof looks at these.
pub mod Laws
use Rattle.std.specs.Prelude.{Bool, cond, not, ◌&&◌, ◌||◌, List, ℕ, zero, suc, ◌+◌, ◌-◌, ◌*◌, ◌/◌, ◌%◌, ltb, leb, eqb, length, get_or, set}
use Rattle.loops.specs.Count.{all, sum}
use Rattle.rows.specs.Row.{node_in}

-- action k behind a hop of word h, which costs c, is a detour: a hop of the same variable that goes back, or in place of which one hop goes all the way at no higher cost
unfoldable pub detours : (hops ways costs : List ℕ) (h c k : ℕ) → Bool
detours hops ways costs h c k =
    let m = get_or hops k 0 in
    let d = get_or ways ((h - 1) / 16 * 16 + (m - 1) % 16) 0 in
    not (eqb m 0) && (eqb ((h - 1) / 256) ((m - 1) / 256)
    && (eqb ((h - 1) / 16 % 16) ((m - 1) % 16) || (not (eqb d 0) && leb (get_or costs (d - 1) 0) (c + get_or costs k 0))))

-- the same where `from` is 16 times the hop's variable plus the value that it left
unfoldable pub detours_from : (hops ways costs : List ℕ) (from c k : ℕ) → Bool
detours_from hops ways costs from c k =
    let m = get_or hops k 0 in
    let d = get_or ways (from * 16 + (m - 1) % 16) 0 in
    not (eqb m 0) && (eqb (from / 16) ((m - 1) / 256)
    && (eqb (from % 16) ((m - 1) % 16) || (not (eqb d 0) && leb (get_or costs (d - 1) 0) (c + get_or costs k 0))))

-- the first n numbers of a list are gone over, and those stay for which the test d does not hold: how many stay
unfoldable pub kept_of : (d : ℕ → Bool) (xs : List ℕ) (n : ℕ) → ℕ
kept_of d xs n = sum n (λ j. cond (not (d (get_or xs j 0))) 1 0)

-- and the whole list then: each number is written behind those that stay, so behind the last of them some that do not stay are left
unfoldable pub kept_in : (d : ℕ → Bool) (xs : List ℕ) (n : ℕ) → List ℕ
kept_in d xs zero = xs
kept_in d xs (suc j) = set (kept_in d xs j) (kept_of d xs j) (get_or xs j 0)

-- whether the first words of `ys` are those of `xs`
unfoldable pub same_front : (xs ys : List ℕ) → Bool
same_front xs ys = all (length xs) (λ k. eqb (get_or xs k 0) (get_or ys k 0))

-- the word of the action that made node u of its parent, where `prices` begins with the parent's prices; else 0, and 0 too with 128 states or more
unfoldable pub hop_behind : (states actions : ℕ) (table hops : List ℕ) (u : ℕ) (prices : List ℕ) → ℕ
hop_behind states actions table hops u prices =
    let n = node_in states table u in
    cond (ltb states 128 && (ltb n.parent u && (ltb n.action actions && same_front (node_in states table n.parent).prices prices)))
    (get_or hops n.action 0) 0
