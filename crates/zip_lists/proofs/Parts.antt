-- Serves the law `one_outcome`: the parts of an entry, each of which no other of its kind begins.
use Rattle.std.proofs.Common.{◌≡◌, ◌≢◌, ◌⊎◌, ℕ, ◌+◌, ◌<◌, ◌≤◌, List, [], ◌∷◌, ◌++◌, length, refl}
use Rattle.std.proofs.Common.{sym, ap, ◌∙◌, inl, inr, arith}
use Rattle.std.proofs.lemmas.List.{append_assoc}
use Rattle.zip_lists.specs.Numbers.{big}
use Rattle.zip_lists.specs.Entry.{Previous, IsPrevious, previous_bytes}
use Rattle.zip_lists.specs.Entry.Previous.{Byte, Four}
use Rattle.zip_lists.specs.Entry.Width.{Bits8, Bits16, Bits24, Bits32, Bits64}
use Rattle.zip_lists.specs.Entry.Content.{Short, Middle, Long, Integer, Small}
use Rattle.zip_lists.specs.Entry.{Width, width_mark, width_size}
use Rattle.zip_lists.specs.Entry.{Content, IsContent, content_bytes}
use Rattle.zip_lists.specs.Entry.{Entry, IsEntry, entry_bytes}

-- two lists of one length, each with something behind it
pub record Same {X : Type 0} (a b : X) (x y : List ℕ) : Type 0 where
  pub part : a ≡ b
  pub rest : x ≡ y

pub same_front : (a b x y : List ℕ) → length a ≡ length b → a ++ x ≡ b ++ y → Same a b x y
same_front [] [] x y e same = record { part = refl; rest = same }
same_front [] (k ∷ b) x y e same = absurd (omega arith)
same_front (n ∷ a) [] x y e same = absurd (omega arith)
same_front (n ∷ a) (k ∷ b) x y e same =
    let heads : n ≡ k = cc in
    let tails : a ++ x ≡ b ++ y = cc in
    let rest = same_front a b x y (omega arith) tails in
    record { part = cc; rest = rest.rest }

-- a length that is told
pub same_previous : (p q : Previous) (x y : List ℕ) → IsPrevious p → IsPrevious q →
    previous_bytes p ++ x ≡ previous_bytes q ++ y → Same p q x y
same_previous (Byte m) (Byte n) x y is is' e = record { part = cc; rest = cc }
same_previous (Byte m) (Four ds) x y is is' e = let h : m ≡ 254 = cc in absurd (omega arith)
same_previous (Four ds) (Byte n) x y is is' e = let h : 254 ≡ n = cc in absurd (omega arith)
same_previous (Four ds) (Four es) x y is is' e =
    let tails : ds ++ x ≡ es ++ y = cc in
    let same = same_front ds es x y (is ∙ sym is') tails in
    record { part = ap Four same.part; rest = same.rest }

-- the encoding byte of an item, and what follows it
pub mark_of : Content → ℕ
mark_of (Short text) = length text
mark_of (Middle high low text) = 0x40 + high
mark_of (Long bits size text) = 0x80 + bits
mark_of (Integer width digits) = width_mark width
mark_of (Small n) = 0xF1 + n

pub behind_mark : Content → List ℕ
behind_mark (Short text) = text
behind_mark (Middle high low text) = low ∷ text
behind_mark (Long bits size text) = size ++ text
behind_mark (Integer width digits) = digits
behind_mark (Small n) = []

pub content-marked : (c : Content) → content_bytes c ≡ mark_of c ∷ behind_mark c
unfolding mark_of behind_mark
content-marked (Short text) = refl
content-marked (Middle high low text) = refl
content-marked (Long bits size text) = refl
content-marked (Integer width digits) = refl
content-marked (Small n) = refl

-- the marks of integers stand apart from all others
pub record IsApart (mark : ℕ) : Type 0 where
  pub high : 0xC0 ≤ mark
  pub other : (mark < 0xF1) ⊎ (0xFD < mark)

pub width-apart : (w : Width) → IsApart (width_mark w)
width-apart Bits8 = record { high = omega arith; other = inr (omega arith) }
width-apart Bits16 = record { high = omega arith; other = inl (omega arith) }
width-apart Bits24 = record { high = omega arith; other = inl (omega arith) }
width-apart Bits32 = record { high = omega arith; other = inl (omega arith) }
width-apart Bits64 = record { high = omega arith; other = inl (omega arith) }

not_small : (w : Width) (n : ℕ) → n ≤ 12 → width_mark w ≢ 0xF1 + n
not_small w n few e = elim (width-apart w).other [ inl low ↦ omega arith | inr high ↦ omega arith ]

pub same_width : (v w : Width) → width_mark v ≡ width_mark w → v ≡ w
same_width Bits8 Bits8 e = refl
same_width Bits8 Bits16 e = absurd (omega arith)
same_width Bits8 Bits24 e = absurd (omega arith)
same_width Bits8 Bits32 e = absurd (omega arith)
same_width Bits8 Bits64 e = absurd (omega arith)
same_width Bits16 Bits8 e = absurd (omega arith)
same_width Bits16 Bits16 e = refl
same_width Bits16 Bits24 e = absurd (omega arith)
same_width Bits16 Bits32 e = absurd (omega arith)
same_width Bits16 Bits64 e = absurd (omega arith)
same_width Bits24 Bits8 e = absurd (omega arith)
same_width Bits24 Bits16 e = absurd (omega arith)
same_width Bits24 Bits24 e = refl
same_width Bits24 Bits32 e = absurd (omega arith)
same_width Bits24 Bits64 e = absurd (omega arith)
same_width Bits32 Bits8 e = absurd (omega arith)
same_width Bits32 Bits16 e = absurd (omega arith)
same_width Bits32 Bits24 e = absurd (omega arith)
same_width Bits32 Bits32 e = refl
same_width Bits32 Bits64 e = absurd (omega arith)
same_width Bits64 Bits8 e = absurd (omega arith)
same_width Bits64 Bits16 e = absurd (omega arith)
same_width Bits64 Bits24 e = absurd (omega arith)
same_width Bits64 Bits32 e = absurd (omega arith)
same_width Bits64 Bits64 e = refl

same_digits : (v w : Width) (ds es : List ℕ) (x y : List ℕ) → v ≡ w → length ds ≡ width_size v →
    length es ≡ width_size w → ds ++ x ≡ es ++ y → Same (Integer v ds) (Integer w es) x y
same_digits v w ds es x y same l l' e =
    let parts = same_front ds es x y (l ∙ ap width_size same ∙ sym l') e in
    record { part = cc; rest = parts.rest }

same_middle : (h l : ℕ) (s : List ℕ) (k m : ℕ) (t : List ℕ) (x y : List ℕ) →
    IsContent (Middle h l s) → IsContent (Middle k m t) → h ≡ k → l ≡ m → s ++ x ≡ t ++ y →
    Same (Middle h l s) (Middle k m t) x y
same_middle h l s k m t x y is is' highs lows e =
    let parts = same_front s t x y (omega (arith, is.1, is'.1)) e in
    record { part = cc; rest = parts.rest }

same_long : (b : ℕ) (ds s : List ℕ) (c : ℕ) (es t : List ℕ) (x y : List ℕ) →
    IsContent (Long b ds s) → IsContent (Long c es t) → b ≡ c → (ds ++ s) ++ x ≡ (es ++ t) ++ y →
    Same (Long b ds s) (Long c es t) x y
same_long b ds s c es t x y is is' bits e =
    let turned : ds ++ (s ++ x) ≡ es ++ (t ++ y) = sym (append_assoc ds s x) ∙ e
    ∙ append_assoc es t y in
    let sizes = same_front ds es (s ++ x) (t ++ y) (is.1 ∙ sym is'.1) turned in
    let lengths : length s ≡ length t = sym is.2 ∙ ap big sizes.part ∙ is'.2 in
    let texts = same_front s t x y lengths sizes.rest in
    record { part = cc (sizes.part, texts.part); rest = texts.rest }

-- an item
pub same_content : (c d : Content) (x y : List ℕ) → IsContent c → IsContent d →
    content_bytes c ++ x ≡ content_bytes d ++ y → Same c d x y
same_content (Short s) (Short t) x y is is' e =
    let lengths : length s ≡ length t = cc in
    let texts : s ++ x ≡ t ++ y = cc in
    let parts = same_front s t x y lengths texts in
    record { part = ap Short parts.part; rest = parts.rest }
same_content (Short s) (Middle k m t) x y is is' e = let h : length s ≡ 0x40 + k = cc in
    absurd (omega arith)
same_content (Short s) (Long c es t) x y is is' e = let h : length s ≡ 0x80 + c = cc in
    absurd (omega arith)
same_content (Short s) (Integer w es) x y is is' e = let h : length s ≡ width_mark w = cc in
    absurd (omega (arith, (width-apart w).high))
same_content (Short s) (Small n) x y is is' e = let h : length s ≡ 0xF1 + n = cc in
    absurd (omega arith)
same_content (Middle k m s) (Short t) x y is is' e = let h : 0x40 + k ≡ length t = cc in
    absurd (omega arith)
same_content (Middle h l s) (Middle k m t) x y is is' e =
    let marks : 0x40 + h ≡ 0x40 + k = cc in
    let lows : l ≡ m = cc in
    let texts : s ++ x ≡ t ++ y = cc in
    same_middle h l s k m t x y is is' (omega arith) lows texts
same_content (Middle k m s) (Long c es t) x y is is' e = let h : 0x40 + k ≡ 0x80 + c = cc in
    absurd (omega (arith, is.0))
same_content (Middle k m s) (Integer w es) x y is is' e = let h : 0x40 + k ≡ width_mark w = cc in
    absurd (omega (arith, is.0, (width-apart w).high))
same_content (Middle k m s) (Small n) x y is is' e = let h : 0x40 + k ≡ 0xF1 + n = cc in
    absurd (omega (arith, is.0))
same_content (Long c es s) (Short t) x y is is' e = let h : 0x80 + c ≡ length t = cc in
    absurd (omega arith)
same_content (Long c es s) (Middle k m t) x y is is' e = let h : 0x80 + c ≡ 0x40 + k = cc in
    absurd (omega (arith, is'.0))
same_content (Long b ds s) (Long c es t) x y is is' e =
    let marks : 0x80 + b ≡ 0x80 + c = cc in
    let tails : (ds ++ s) ++ x ≡ (es ++ t) ++ y = cc in
    same_long b ds s c es t x y is is' (omega arith) tails
same_content (Long c es s) (Integer w ds) x y is is' e = let h : 0x80 + c ≡ width_mark w = cc in
    absurd (omega (arith, is.0, (width-apart w).high))
same_content (Long c es s) (Small n) x y is is' e = let h : 0x80 + c ≡ 0xF1 + n = cc in
    absurd (omega (arith, is.0))
same_content (Integer w ds) (Short t) x y is is' e = let h : width_mark w ≡ length t = cc in
    absurd (omega (arith, (width-apart w).high))
same_content (Integer w ds) (Middle k m t) x y is is' e = let h : width_mark w ≡ 0x40 + k = cc in
    absurd (omega (arith, is'.0, (width-apart w).high))
same_content (Integer w ds) (Long c es t) x y is is' e = let h : width_mark w ≡ 0x80 + c = cc in
    absurd (omega (arith, is'.0, (width-apart w).high))
same_content (Integer v ds) (Integer w es) x y is is' e =
    let marks : width_mark v ≡ width_mark w = cc in
    let tails : ds ++ x ≡ es ++ y = cc in
    same_digits v w ds es x y (same_width v w marks) is is' tails
same_content (Integer w ds) (Small n) x y is is' e = let h : width_mark w ≡ 0xF1 + n = cc in
    absurd (not_small w n is' h)
same_content (Small n) (Short t) x y is is' e = let h : 0xF1 + n ≡ length t = cc in
    absurd (omega arith)
same_content (Small n) (Middle k m t) x y is is' e = let h : 0xF1 + n ≡ 0x40 + k = cc in
    absurd (omega (arith, is'.0))
same_content (Small n) (Long c es t) x y is is' e = let h : 0xF1 + n ≡ 0x80 + c = cc in
    absurd (omega (arith, is'.0))
same_content (Small n) (Integer w es) x y is is' e = let h : 0xF1 + n ≡ width_mark w = cc in
    absurd (not_small w n is (sym h))
same_content (Small n) (Small k) x y is is' e =
    let marks : 0xF1 + n ≡ 0xF1 + k = cc in
    let same : n ≡ k = omega arith in
    record { part = ap Small same; rest = cc }

-- an entry
pub same_entry : (a b : Entry) (x y : List ℕ) → IsEntry a → IsEntry b →
    entry_bytes a ++ x ≡ entry_bytes b ++ y → Same a b x y
same_entry a b x y is is' e =
    let turned : previous_bytes a.previous ++ (content_bytes a.content ++ x) ≡ previous_bytes
    b.previous ++ (content_bytes b.content ++ y) =
    sym (append_assoc (previous_bytes a.previous) (content_bytes a.content) x) ∙ e
    ∙ append_assoc (previous_bytes b.previous) (content_bytes b.content) y in
    let lengths = same_previous a.previous b.previous _ _ is.previous is'.previous turned in
    let items = same_content a.content b.content x y is.content is'.content lengths.rest in
    record {
      part = λ i. record { previous = lengths.part i; content = items.part i };
      rest =
          items.rest;
    }
