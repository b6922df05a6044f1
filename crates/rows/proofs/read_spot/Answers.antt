use Rattle.std.proofs.Common.{◌≡◌, refl, sym, ap, ◌∙◌, List, ◌++◌, ℕ, zero, suc, ◌+◌, ◌-◌, ◌*◌, ◌/◌, ◌%◌, ◌^◌, ◌<◌, ◌≤◌, div-one, arith, length, get_or, take, w64, get_or-take, length-take-le}
use borrow.Rule.Slice.PartMut.{same_len_mid}
use Rattle.std.specs.Int.{to_le_bytes}
use Rattle.std.proofs.Math.Decide.{dec_lt}
use Rattle.std.proofs.Math.ListN.{get_or-append}
use Rattle.std.proofs.lemmas.List.{get_or-append_right}
use Rattle.std.proofs.Math.Seq.{ext_get_or}
use Rattle.loops.specs.Count.{list}
use Rattle.loops.specs.Count.Laws.{list_length, list_at}
use Rattle.rows.specs.Row.{byte_in, spot_of}
use Rattle.rows.proofs.read_spot.Goals as goal

-- a byte of a word
byte : (n j : ℕ) → j < 8 → get_or (to_le_bytes w64 n) j 0 ≡ n / 2 ^ (j * 8) % 256
byte n zero l = ap (λ (x : ℕ). x % 256) (sym (div-one n))
byte n (suc zero) l = refl
byte n (suc (suc zero)) l = refl
byte n (suc (suc (suc zero))) l = refl
byte n (suc (suc (suc (suc zero)))) l = refl
byte n (suc (suc (suc (suc (suc zero))))) l = refl
byte n (suc (suc (suc (suc (suc (suc zero)))))) l = refl
byte n (suc (suc (suc (suc (suc (suc (suc zero))))))) l = refl
byte n (suc (suc (suc (suc (suc (suc (suc (suc j)))))))) l = absurd (omega arith)

-- eight values more
bytes_more : (row values bytes rest : List ℕ) (k : ℕ) → k * 8 ≤ length values → bytes ≡ to_le_bytes w64 (get_or row (35 + k) 0)
    → ((v : ℕ) → v < k * 8 → get_or values v 0 ≡ byte_in row v)
    → (v : ℕ) → v < (k + 1) * 8 → get_or (take (k * 8) values ++ (bytes ++ rest)) v 0 ≡ byte_in row v
bytes_more row values bytes rest k room e h v l = go (dec_lt v (k * 8))
  where
    front : length (take (k * 8) values) ≡ k * 8
    front = length-take-le (k * 8) values room

    go : Dec (v < k * 8) → get_or (take (k * 8) values ++ (bytes ++ rest)) v 0 ≡ byte_in row v
    go (yes b) = get_or-append (take (k * 8) values) (bytes ++ rest) 0 v (omega (arith, front)) ∙ get_or-take (k * 8) values v 0 b ∙ h v b
    go (no d) =
        let at : v / 8 ≡ k = omega arith in
        let place : v % 8 ≡ v - k * 8 = omega arith in
        let long : length bytes ≡ 8 = ap length e in
        get_or-append_right (take (k * 8) values) (bytes ++ rest) (k * 8) v 0 front (omega arith)
        ∙ get_or-append bytes rest 0 (v - k * 8) (omega (arith, long))
        ∙ ap (λ (xs : List ℕ). get_or xs (v - k * 8) 0) e
        ∙ byte (get_or row (35 + k) 0) (v - k * 8) (omega arith)
        ∙ rw (at, place)

pub loop-k-preserved : goal.loop-k-preserved
loop-k-preserved c =
    let l = c.loop-k in
    let bytes = c.copy_from_slice.ensures.after ∙ c.to_le_bytes.ensures in
    (same_len_mid _ _ l.values _ c.copy_from_slice.ensures.len ∙ l.invariant.0, bytes_more c.args.row.now l.values c.copy_from_slice.new.self _ l.k (omega arith) bytes l.invariant.1)

pub returns : goal.returns
unfolding spot_of
returns c =
    let l = c.loop-k in
    let f = byte_in c.args.row.now in
    let same : l.values ≡ list 32 f =
    ext_get_or 0 l.values (list 32 f) (l.invariant.0 ∙ sym (list_length 32 f)) (λ v b. l.invariant.1 v (omega arith) ∙ sym (list_at 32 f v (omega arith))) in
    rw same
