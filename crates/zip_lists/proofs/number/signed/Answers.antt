use Rattle.std.proofs.Common.{◌≡◌, ℕ, ◌-◌, ◌*◌, ◌^◌, ◌<◌, List, [], ◌∷◌, length, get_or, nat_lt}
use Rattle.std.proofs.Common.{if◌then◌else◌, pos, negsuc, refl, sym, ap, ◌∙◌, arith, FitsSigned}
use Rattle.std.proofs.Common.{rules}
use Rattle.std.specs.Int.{w64, cast_signed, from_le_bytes}
use Rattle.std.proofs.lemmas.Bool.Decides.{nat_tests}
use Rattle.std.proofs.lemmas.Int.{ints, to_z-of_z}
use Rattle.zip_lists.specs.Numbers.{little, signed}
use Rattle.zip_lists.proofs.number.signed.Goals as goal

-- eight bytes, one by one
eight : (xs : List ℕ) → length xs ≡ 8 → xs ≡ get_or xs 0 0 ∷ get_or xs 1 0 ∷ get_or xs 2 0 ∷ get_or
    xs 3 0 ∷ get_or xs 4 0 ∷ get_or xs 5 0 ∷ get_or xs 6 0 ∷ get_or xs 7 0 ∷ []
eight [] e = absurd (omega arith)
eight (a ∷ []) e = absurd (omega arith)
eight (a ∷ b ∷ []) e = absurd (omega arith)
eight (a ∷ b ∷ c ∷ []) e = absurd (omega arith)
eight (a ∷ b ∷ c ∷ d ∷ []) e = absurd (omega arith)
eight (a ∷ b ∷ c ∷ d ∷ f ∷ []) e = absurd (omega arith)
eight (a ∷ b ∷ c ∷ d ∷ f ∷ g ∷ []) e = absurd (omega arith)
eight (a ∷ b ∷ c ∷ d ∷ f ∷ g ∷ h ∷ []) e = absurd (omega arith)
eight (a ∷ b ∷ c ∷ d ∷ f ∷ g ∷ h ∷ i ∷ []) e = refl
eight (a ∷ b ∷ c ∷ d ∷ f ∷ g ∷ h ∷ i ∷ j ∷ xs) e = absurd (omega arith)

-- 64 bits in two's complement
signed_64 : (n : ℕ) → n < 2 ^ 64 → cast_signed w64 n ≡
    (if nat_lt (2 * n) (256 ^ 8) then pos n else negsuc (256 ^ 8 - 1 - n))
signed_64 n fits = grind (arith, ints, nat_tests)

little_8 : (a b c d e f g h n : ℕ) → n ≡ from_le_bytes w64 (a ∷ b ∷ c ∷ d ∷ e ∷ f ∷ g ∷ h ∷ []) →
    n ≡ little (a ∷ b ∷ c ∷ d ∷ e ∷ f ∷ g ∷ h ∷ [])
little_8 a b c d e f g h n is = omega arith

bytes_8 : (a b c d e f g h : ℕ) → a < 256 → b < 256 → c < 256 → d < 256 → e < 256 → f < 256 →
    g < 256 → h < 256 →
    cast_signed w64 (from_le_bytes w64 (a ∷ b ∷ c ∷ d ∷ e ∷ f ∷ g ∷ h ∷ [])) ≡ signed
    (a ∷ b ∷ c ∷ d ∷ e ∷ f ∷ g ∷ h ∷ [])
bytes_8 a b c d e f g h a' b' c' d' e' f' g' h' =
    let bytes : List ℕ = a ∷ b ∷ c ∷ d ∷ e ∷ f ∷ g ∷ h ∷ [] in
    let small : little bytes < 2 ^ 64 = omega arith in
    ap (cast_signed w64) (little_8 a b c d e f g h (from_le_bytes w64 bytes) refl)
    ∙ signed_64 (little bytes) small

list_8 : (xs : List ℕ) → length xs ≡ 8 → ((i : ℕ) → get_or xs i 0 < 256) →
    cast_signed w64 (from_le_bytes w64 (get_or xs 0 0 ∷ get_or xs 1 0 ∷ get_or xs 2 0 ∷ get_or xs 3
    0 ∷ get_or xs 4 0 ∷ get_or xs 5 0 ∷ get_or xs 6 0 ∷ get_or xs 7 0 ∷ [])) ≡ signed xs
list_8 xs e small =
    bytes_8 _ _ _ _ _ _ _ _ (small 0) (small 1) (small 2) (small 3) (small 4) (small 5) (small 6)
    (small 7) ∙ ap signed (sym (eight xs e))

pub returns-in-len8 : goal.returns-in-len8
returns-in-len8 c =
    let z = c.from_le_bytes-in-len8.result in
    let fits : FitsSigned w64 z = search rules in
    let bytes = c.args.digits.now in
    to_z-of_z w64 z fits ∙ c.from_le_bytes-in-len8.ensures
    ∙ list_8 bytes (omega arith) (λ i. omega (arith, c.type_inv.digits i))
