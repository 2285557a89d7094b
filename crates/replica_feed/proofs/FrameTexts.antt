-- The texts of frames, word by word. It serves the clauses `ok` and `err` of the two that append.
use Rattle.std.proofs.Common.{◌≡◌, ℕ, List, [], ◌∷◌, ◌++◌, length, take, codes, Result, Ok, Err, OnOk, OnErr, arith, refl, lit<, ap, ◌∙◌, sym, append_assoc, append-nil, length-append}
use Rattle.std.proofs.lemmas.Fmt.{decimal_digit}
use Rattle.std.proofs.lemmas.List.{take-take, take_at}
use Rattle.resp_codec.specs.Spelling.{multibulk, bulk}
use Rattle.replica_feed.specs.Frames.{full_word, unit_word}

pub full_text : (run number file : List ℕ)
    → codes "*4\r\n$4\r\nFULL\r\n" ++ (bulk run ++ (bulk number ++ (bulk file ++ [])))
    ≡ multibulk (full_word ∷ run ∷ number ∷ file ∷ [])
full_text run number file = rw (decimal_digit 4 (lit< tt)) refl

pub unit_text : (run from to text : List ℕ)
    → codes "*5\r\n$4\r\nUNIT\r\n" ++ (bulk run ++ (bulk from ++ (bulk to ++ (bulk text ++ []))))
    ≡ multibulk (unit_word ∷ run ∷ from ∷ to ∷ text ∷ [])
unit_text run from to text = rw (decimal_digit 5 (lit< tt), decimal_digit 4 (lit< tt)) refl

module _ (s0 s1 s2 s3 a b c : List ℕ) (e1 : s1 ≡ s0 ++ a) (e2 : s2 ≡ s1 ++ b)
    (e3 : s3 ≡ s2 ++ c) where
  -- three pieces were appended one after the other
  pub three : s3 ≡ s0 ++ (a ++ (b ++ c))
  three =
      e3 ∙ ap (λ (x : List ℕ). x ++ c) (e2 ∙ ap (λ (x : List ℕ). x ++ b) e1)
      ∙ append_assoc (s0 ++ a) b c ∙ append_assoc s0 a (b ++ c)

  module _ (s4 d : List ℕ) where
    -- and a fourth
    pub four : s4 ≡ s3 ++ d → s4 ≡ s0 ++ (a ++ (b ++ (c ++ d)))
    four e4 =
        e4 ∙ ap (λ (x : List ℕ). x ++ d) three ∙ append_assoc s0 (a ++ (b ++ c)) d
        ∙ ap (λ (x : List ℕ). s0 ++ x)
        (append_assoc a (b ++ c) d ∙ ap (λ (x : List ℕ). a ++ x) (append_assoc b c d))

    module _ (e4 : s4 ≡ s3 ++ d) (s5 e : List ℕ) where
      pub five : s5 ≡ s4 ++ e → s5 ≡ s0 ++ (a ++ (b ++ (c ++ (d ++ e))))
      five e5 =
          e5 ∙ ap (λ (x : List ℕ). x ++ e) (four e4) ∙ append_assoc s0 (a ++ (b ++ (c ++ d))) e
          ∙ ap (λ (x : List ℕ). s0 ++ x)
          (append_assoc a (b ++ (c ++ d)) e
          ∙ ap (λ (x : List ℕ). a ++ x)
          (append_assoc b (c ++ d) e ∙ ap (λ (x : List ℕ). b ++ x) (append_assoc c d e)))

-- a front of a front
pub front : (s s' more last : List ℕ) → s' ≡ s ++ more → take (length s') last ≡ s'
    → take (length s) last ≡ s
front s s' more last whole is =
    sym (take-take (length s) (length s') last
    (omega (arith, ap length whole, length-append s more)))
    ∙ ap (take (length s)) (is ∙ whole) ∙ take_at s more (length s) refl

last_nil : (x : List ℕ) → x ≡ x ++ []
last_nil x = sym (append-nil x)

module _ {T E : Type 0} where
  -- a Full was appended
  pub full_ok : (r : Result T E) (s0 s1 s2 s3 s4 run number file : List ℕ)
      → s1 ≡ s0 ++ codes "*4\r\n$4\r\nFULL\r\n" → s2 ≡ s1 ++ bulk run → s3 ≡ s2 ++ bulk number
      → OnOk r (s4 ≡ s3 ++ bulk file)
      → OnOk r (s4 ≡ s0 ++ multibulk (full_word ∷ run ∷ number ∷ file ∷ []))
  full_ok (Ok x) s0 s1 s2 s3 s4 run number file e1 e2 e3 e4 =
      four s0 s1 s2 s3 (codes "*4\r\n$4\r\nFULL\r\n") (bulk run) (bulk number) e1 e2 e3 s4
      (bulk file) e4
      ∙ ap (λ (x : List ℕ). s0 ++ (codes "*4\r\n$4\r\nFULL\r\n" ++ (bulk run ++ (bulk number ++ x))))
      (last_nil (bulk file))
      ∙ ap (λ (x : List ℕ). s0 ++ x) (full_text run number file)
  full_ok (Err e) s0 s1 s2 s3 s4 run number file e1 e2 e3 e4 = tt

  pub full_err : (r : Result T E) (s0 s1 s2 s3 s4 a b c : List ℕ)
      → s1 ≡ s0 ++ a → s2 ≡ s1 ++ b → s3 ≡ s2 ++ c
      → OnErr r (take (length s3) s4 ≡ s3) → OnErr r (take (length s0) s4 ≡ s0)
  full_err (Ok x) s0 s1 s2 s3 s4 a b c e1 e2 e3 e4 = tt
  full_err (Err e) s0 s1 s2 s3 s4 a b c e1 e2 e3 e4 =
      front s0 s3 (a ++ (b ++ c)) s4 (three s0 s1 s2 s3 a b c e1 e2 e3) e4

  -- a Unit was appended
  pub unit_ok : (r : Result T E) (s0 s1 s2 s3 s4 s5 run from to text : List ℕ)
      → s1 ≡ s0 ++ codes "*5\r\n$4\r\nUNIT\r\n" → s2 ≡ s1 ++ bulk run → s3 ≡ s2 ++ bulk from
      → s4 ≡ s3 ++ bulk to → OnOk r (s5 ≡ s4 ++ bulk text)
      → OnOk r (s5 ≡ s0 ++ multibulk (unit_word ∷ run ∷ from ∷ to ∷ text ∷ []))
  unit_ok (Ok x) s0 s1 s2 s3 s4 s5 run from to text e1 e2 e3 e4 e5 =
      five s0 s1 s2 s3 (codes "*5\r\n$4\r\nUNIT\r\n") (bulk run) (bulk from) e1 e2 e3 s4 (bulk to)
      e4 s5 (bulk text) e5
      ∙ ap
      (λ (x : List ℕ). s0
      ++ (codes "*5\r\n$4\r\nUNIT\r\n" ++ (bulk run ++ (bulk from ++ (bulk to ++ x)))))
      (last_nil (bulk text))
      ∙ ap (λ (x : List ℕ). s0 ++ x) (unit_text run from to text)
  unit_ok (Err e) s0 s1 s2 s3 s4 s5 run from to text e1 e2 e3 e4 e5 = tt

  pub unit_err : (r : Result T E) (s0 s1 s2 s3 s4 s5 a b c d : List ℕ)
      → s1 ≡ s0 ++ a → s2 ≡ s1 ++ b → s3 ≡ s2 ++ c → s4 ≡ s3 ++ d
      → OnErr r (take (length s4) s5 ≡ s4) → OnErr r (take (length s0) s5 ≡ s0)
  unit_err (Ok x) s0 s1 s2 s3 s4 s5 a b c d e1 e2 e3 e4 e5 = tt
  unit_err (Err e) s0 s1 s2 s3 s4 s5 a b c d e1 e2 e3 e4 e5 =
      front s0 s4 (a ++ (b ++ (c ++ d))) s5 (four s0 s1 s2 s3 a b c e1 e2 e3 s4 d e4) e5
