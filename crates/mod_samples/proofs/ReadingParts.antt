-- Reading the parts of a list one after the other. Serves the clauses of reading::numbers_in and
-- reading::saved.
use Rattle.std.proofs.Common.{◌≡◌, ℕ, suc, zero, ◌+◌, ◌-◌, ◌<◌, ℤ, List, [], ◌∷◌, ◌++◌, length, Option, Some, None, Result, Ok, Err, refl, ap, sym, ◌∙◌, append_assoc, length-append, arith}
use Rattle.std.specs.Prelude.{slice_get}
use Rattle.core_types.specs.declared.load_fault.LoadFault.{LoadFault}
use Rattle.core_types.specs.declared.load_fault.LoadFault.TheVariants as load_fault
use Rattle.core_types.specs.declared.tagged.Tagged.TheVariants as tagged
use Rattle.module_laws.specs.Words.{Saved}
use Rattle.tagged_io.specs.Taking.{first_number, taken_one}
use Rattle.tagged_io.specs.declared.take_fault.TakeFault.{TakeFault}
use Rattle.mod_samples.specs.HelloNumbers.{before_read, number_after, numbers_after, read_on}

-- numbers that were read, and then others
abbrev pub behind_read : List ℤ → Result (List ℤ) LoadFault → Result (List ℤ) LoadFault
behind_read ns (Ok more) = Ok (ns ++ more)
behind_read ns (Err why) = Err why

pub nothing_read : (r : Result (List ℤ) LoadFault) → behind_read [] r ≡ r
nothing_read (Ok more) = refl
nothing_read (Err why) = refl

one_more : (ns : List ℤ) (n : ℤ) (r : Result (List ℤ) LoadFault)
    → behind_read ns (before_read n r) ≡ behind_read (ns ++ n ∷ []) r
one_more ns n (Ok more) = ap Ok (sym (append_assoc ns (n ∷ []) more))
one_more ns n (Err why) = refl

-- the one before the next number
abbrev pub last_of : List ℤ → Option ℤ
last_of ns = slice_get ns (length ns - 1)

at_end : (ns : List ℤ) (n : ℤ) → slice_get (ns ++ n ∷ []) (length ns) ≡ Some n
at_end [] n = refl
at_end (m ∷ ms) n = at_end ms n

pub last_of-push : (ns : List ℤ) (n : ℤ) → last_of (ns ++ n ∷ []) ≡ Some n
last_of-push ns n =
    ap (slice_get (ns ++ n ∷ [])) (omega (arith, length-append ns (n ∷ []))) ∙ at_end ns n

-- a part is missing, or is no number
pub missing : (version : ℕ) (last : Option ℤ) (left place : ℕ) (ns : List ℤ) (parts : Saved)
    (why : TakeFault) → 0 < left → first_number parts ≡ Err why
    → behind_read ns (numbers_after version last left place parts) ≡ Err (load_fault.Shape place)
missing version last zero place ns parts why some is = absurd (omega arith)
missing version last (suc left) place ns [] why some is = refl
missing version last (suc left) place ns (tagged.Bytes bytes ∷ parts) why some is = refl
missing version last (suc left) place ns (tagged.Number part ∷ parts) why some is = cc

number_case : (version : ℕ) (left place : ℕ) (ns : List ℤ) (parts : Saved) (number : Option ℤ)
    → number ≡ None → behind_read ns (read_on place number
    (λ k. numbers_after version (Some k) left (place + 1) parts)) ≡ Err (load_fault.Shape place)
number_case version left place ns parts number is =
    ap (λ m. behind_read ns (read_on place m
    (λ k. numbers_after version (Some k) left (place + 1) parts))) is

-- a number does not fit
pub unfit : (version : ℕ) (last : Option ℤ) (left place : ℕ) (ns : List ℤ) (parts : Saved)
    (part : ℕ) → 0 < left → first_number parts ≡ Ok part → number_after version last part ≡ None
    → behind_read ns (numbers_after version last left place parts) ≡ Err (load_fault.Shape place)
unfit version last zero place ns parts part some is none = absurd (omega arith)
unfit version last (suc left) place ns [] part some is none = cc
unfit version last (suc left) place ns (tagged.Bytes bytes ∷ parts) part some is none = cc
unfit version last (suc left) place ns (tagged.Number other ∷ parts) part some is none =
    let same : other ≡ part = cc in
    number_case version left place ns parts (number_after version last other)
    (ap (number_after version last) same ∙ none)

step_case : (version : ℕ) (left place : ℕ) (ns : List ℤ) (rest : Saved) (n : ℤ)
    (number : Option ℤ) → number ≡ Some n
    → behind_read ns (read_on place number
    (λ k. numbers_after version (Some k) left (place + 1) rest))
    ≡ behind_read (ns ++ n ∷ []) (numbers_after version (Some n) left (place + 1) rest)
step_case version left place ns rest n number is =
    ap (λ m. behind_read ns (read_on place m
    (λ k. numbers_after version (Some k) left (place + 1) rest))) is
    ∙ one_more ns n (numbers_after version (Some n) left (place + 1) rest)

-- a number fits, and reading goes on behind it
pub step : (version : ℕ) (last : Option ℤ) (left : ℕ) (ns : List ℤ) (taken parts : Saved)
    (part : ℕ) (n : ℤ) → 0 < left → first_number parts ≡ Ok part
    → number_after version last part ≡ Some n
    → behind_read ns (numbers_after version last left (length taken) parts)
    ≡ behind_read (ns ++ n ∷ []) (numbers_after version (last_of (ns ++ n ∷ [])) (left - 1)
    (length (taken_one taken parts).taken) (taken_one taken parts).left)
step version last zero ns taken parts part n some is fits = absurd (omega arith)
step version last (suc left) ns taken [] part n some is fits = cc
step version last (suc left) ns taken (tagged.Bytes bytes ∷ parts) part n some is fits = cc
step version last (suc left) ns taken (tagged.Number other ∷ parts) part n some is fits =
    let same : other ≡ part = cc in
    let next : Saved = tagged.Number other ∷ [] in
    step_case version left (length taken) ns parts n (number_after version last other)
    (ap (number_after version last) same ∙ fits)
    ∙ ap (λ l. behind_read (ns ++ n ∷ []) (numbers_after version l left (length taken + 1) parts))
    (sym (last_of-push ns n))
    ∙ ap (λ k. behind_read (ns ++ n ∷ []) (numbers_after version (last_of (ns ++ n ∷ [])) k
    (length taken + 1) parts)) (omega arith)
    ∙ ap (λ p. behind_read (ns ++ n ∷ []) (numbers_after version (last_of (ns ++ n ∷ []))
    (suc left - 1) p parts)) (omega (arith, length-append taken next))
