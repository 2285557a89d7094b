-- Where the search for a header's CR ended, and what stands there.
use Rattle.std.proofs.Common.{◌≡◌, ◌≢◌, ℕ, ◌+◌, ◌≤◌, List, [], ◌∷◌, ◌++◌, length, take, drop, get_or, refl, sym, ap, ◌∙◌, append_assoc, arith, inl, inr}
use Rattle.std.proofs.lemmas.Grind.{common_steps}
use Rattle.std.proofs.lemmas.List.{length-take-le, take-append-drop, take_all, drop_more, drop_all}
use Rattle.core_types.specs.declared.bad_request.BadRequest.TheVariants.{LineTooLong, NoLineEnd}
use Rattle.resp_codec.specs.Marks.{crlf}
use Rattle.resp_codec.specs.Faults.{IsHeaderText}
use Rattle.resp_codec.specs.inner.Line.{IsSearchEnd, IsFound}
use Rattle.resp_codec.specs.inner.Header.{Judges}
use Rattle.resp_codec.specs.declared.header.Header.TheVariants as answer
use Rattle.resp_codec.specs.declared.line.LineEnd.TheVariants as found
use Rattle.resp_codec.proofs.Judging.{head, head-none, head-alone}
use Rattle.resp_codec.proofs.Judging.Head.{Open}
use Rattle.resp_codec.proofs.Verdicts.{due_open, IsUnfinished-from_short}

header_text : (end : ℕ) (bytes : List ℕ) → IsSearchEnd 13 end bytes → end ≢ 65537 → IsHeaderText (take end bytes)
header_text end bytes searched near =
    record { short = omega (arith, length-take-le end bytes searched.searched.within, searched.searched.near); unbroken = searched.searched.none }

-- two bytes that stand in a list
pub two_at : (bytes : List ℕ) (place a b : ℕ) → place + 2 ≤ length bytes → get_or bytes place 0 ≡ a → get_or bytes (place + 1) 0 ≡ b → bytes ≡ take place bytes ++ a ∷ b ∷ drop (place + 2) bytes
two_at bytes place a b long first second =
    grind (arith, common_steps, take-append-drop place bytes, drop_more bytes place 0, drop_more bytes (place + 1) 0)

pub one_at : (bytes : List ℕ) (place a : ℕ) → place + 1 ≤ length bytes → get_or bytes place 0 ≡ a → bytes ≡ take place bytes ++ a ∷ drop (place + 1) bytes
one_at bytes place a long first =
    grind (arith, common_steps, take-append-drop place bytes, drop_more bytes place 0)

pub Judges-endless : (bytes : List ℕ) → IsSearchEnd 13 65537 bytes → Judges bytes (answer.Bad LineTooLong 0)
Judges-endless bytes searched = (
  omega arith,
  λ before due. inl record {
    before = before;
    here = bytes;
    offset = 0;
    whole = refl;
    due = due;
    wrong = record { long = searched.searched.within; unbroken = searched.searched.none; place = refl };
    place = refl;
  },
)

head-open : (bytes : List ℕ) (end : ℕ) → IsSearchEnd 13 end bytes → end ≢ 65537 → IsFound bytes end found.Open → head bytes ≡ Open
head-open bytes end searched near (inl short) =
    let whole : take end bytes ≡ bytes = take_all end bytes short in
    head-none bytes (rw whole at (header_text end bytes searched near))
head-open bytes end searched near (inr (last, return)) =
    let parts : bytes ≡ take end bytes ++ 13 ∷ [] = one_at bytes end 13 (omega arith) return ∙ ap (λ (rest : List ℕ). take end bytes ++ 13 ∷ rest) (drop_all (end + 1) bytes (omega arith)) in
    ap head parts ∙ head-alone (take end bytes) (header_text end bytes searched near)

pub Judges-open : (bytes : List ℕ) (end : ℕ) → IsSearchEnd 13 end bytes → end ≢ 65537 → IsFound bytes end found.Open → Judges bytes answer.Open
Judges-open bytes end searched near open_end before due =
    IsUnfinished-from_short (before ++ bytes) (due_open before bytes due (head-open bytes end searched near open_end))

pub Judges-line : (bytes : List ℕ) (end : ℕ) → IsSearchEnd 13 end bytes → end ≢ 65537 → IsFound bytes end found.There → Judges bytes (answer.Line end)
Judges-line bytes end searched near there =
    record {
      within = there.0;
      parts = two_at bytes end 13 10 there.0 there.1 there.2 ∙ sym (append_assoc (take end bytes) crlf (drop (end + 2) bytes));
      is_text = header_text end bytes searched near;
    }

pub Judges-missing : (bytes : List ℕ) (end at : ℕ) → IsSearchEnd 13 end bytes → end ≢ 65537 → IsFound bytes end (found.Missing at) → Judges bytes (answer.Bad NoLineEnd at)
Judges-missing bytes end at searched near (inl (same, less, other)) =
    absurd (other (ap (λ (k : ℕ). get_or bytes k 0) same ∙ searched.there (omega arith) (omega (arith, searched.searched.near))))
Judges-missing bytes end at searched near (inr (next, less, return, other)) = (
  omega arith,
  λ before due. inl record {
    before = before;
    here = bytes;
    offset = at;
    whole = refl;
    due = due;
    wrong = record {
      text = take end bytes;
      byte = get_or bytes (end + 1) 0;
      more = drop (end + 2) bytes;
      all = two_at bytes end 13 (get_or bytes (end + 1) 0) (omega arith) return refl;
      is_text = header_text end bytes searched near;
      other = λ e. other (ap (λ (k : ℕ). get_or bytes k 0) next ∙ e);
      place = omega (arith, length-take-le end bytes searched.searched.within);
    };
    place = refl;
  },
)

pub ruleset judging = (Judges-line)
