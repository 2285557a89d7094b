-- Serves the laws `lengths_read_back` and `strings_read_back`: what is written is read back, and is
-- the shortest.
use Rattle.std.proofs.Common.{◌≡◌, ℕ, ◌+◌, ◌^◌, ◌<◌, ◌≤◌, List, ◌++◌, length, refl, ap, inl, inr, arith, lt-ltb, le-ltb}
use Rattle.std.proofs.lemmas.Bool.{cases_lt}
use Rattle.rdb_prims.specs.Length.{Form, Six, Fourteen, ThirtyTwo, SixtyFour, limit, spelling, SpellsLength, shortest, length_text}
use Rattle.rdb_prims.specs.Text.{longest, string_text}
use Rattle.rdb_prims.specs.Places.{HasLength, HasString}
use Rattle.rdb_prims.specs.Reading.{size_behind}
use Rattle.rdb_prims.proofs.Forms.{spelling-is, length-behind}

-- which form is the shortest
shortest_six : (n : ℕ) → n < 2 ^ 6 → shortest n ≡ Six
shortest_six n h = rw (lt-ltb n (2 ^ 6) h) refl

shortest_fourteen : (n : ℕ) → 2 ^ 6 ≤ n → n < 2 ^ 14 → shortest n ≡ Fourteen
shortest_fourteen n g h = rw (le-ltb n (2 ^ 6) g, lt-ltb n (2 ^ 14) h) refl

shortest_32 : (n : ℕ) → 2 ^ 14 ≤ n → n < 2 ^ 32 → shortest n ≡ ThirtyTwo
shortest_32 n g h =
    rw (le-ltb n (2 ^ 6) (omega arith), le-ltb n (2 ^ 14) g, lt-ltb n (2 ^ 32) h) refl

shortest_64 : (n : ℕ) → 2 ^ 32 ≤ n → shortest n ≡ SixtyFour
shortest_64 n g =
    rw (le-ltb n (2 ^ 6) (omega arith), le-ltb n (2 ^ 14) (omega arith), le-ltb n (2 ^ 32) g) refl

pub shortest_holds : (n : ℕ) → n < 2 ^ 64 → n < limit (shortest n)
shortest_holds n h =
    elim (cases_lt n (2 ^ 6)) [
      | inl a ↦ rw (shortest_six n a) a
      | inr a ↦ elim (cases_lt n (2 ^ 14)) [
        | inl b ↦ rw (shortest_fourteen n a b) b
        | inr b ↦ elim (cases_lt n (2 ^ 32)) [
          | inl d ↦ rw (shortest_32 n b d) d
          | inr d ↦ rw (shortest_64 n d) h
        ]
      ]
    ]

pub length_written : (front more : List ℕ) (n : ℕ) → n < 2 ^ 64
    → HasLength (front ++ (length_text n ++ more)) (length front) n (length front + length (length_text n))
length_written front more n h = record {
  piece = length_text n;
  stands = record { front = front; more = more; whole = refl; place = refl; behind = refl };
  spells = record { form = shortest n; held = shortest_holds n h; whole = refl };
}

pub string_written : (front more text : List ℕ) → length text ≤ longest
    → HasString (front ++ (string_text text ++ more)) (length front) text (length front + length (string_text text))
string_written front more text h = record {
  piece = string_text text;
  stands = record { front = front; more = more; whole = refl; place = refl; behind = refl };
  spells = (
    inl (record { form = shortest (length text); held = shortest_holds (length text) (omega arith); whole = refl }),
    h,
  );
}

-- the shortest form has no more bytes than any that holds the number
no_longer : (form : Form) (n : ℕ) → n < limit form → size_behind (shortest n) ≤ size_behind form
no_longer Six n h = rw (shortest_six n h) (omega arith)
no_longer Fourteen n h =
    elim (cases_lt n (2 ^ 6)) [
      | inl a ↦ rw (shortest_six n a) (omega arith)
      | inr a ↦ rw (shortest_fourteen n a h) (omega arith)
    ]
no_longer ThirtyTwo n h =
    elim (cases_lt n (2 ^ 6)) [
      | inl a ↦ rw (shortest_six n a) (omega arith)
      | inr a ↦ elim (cases_lt n (2 ^ 14)) [
        | inl b ↦ rw (shortest_fourteen n a b) (omega arith)
        | inr b ↦ rw (shortest_32 n b h) (omega arith)
      ]
    ]
no_longer SixtyFour n h =
    elim (cases_lt n (2 ^ 6)) [
      | inl a ↦ rw (shortest_six n a) (omega arith)
      | inr a ↦ elim (cases_lt n (2 ^ 14)) [
        | inl b ↦ rw (shortest_fourteen n a b) (omega arith)
        | inr b ↦ elim (cases_lt n (2 ^ 32)) [
          | inl d ↦ rw (shortest_32 n b d) (omega arith)
          | inr d ↦ rw (shortest_64 n d) (omega arith)
        ]
      ]
    ]

spelling-size : (form : Form) (n : ℕ) → length (spelling form n) ≡ 1 + size_behind form
spelling-size form n = omega (arith, ap length (spelling-is form n), length-behind form n)

pub shortest_text : (bytes : List ℕ) (n : ℕ) → SpellsLength bytes n
    → length (length_text n) ≤ length bytes
shortest_text bytes n h =
    omega (
      arith,
      spelling-size (shortest n) n,
      spelling-size h.form n,
      ap length h.whole,
      no_longer h.form n h.held,
    )
