-- Serves the law `one_outcome`: one list of items, one first bad place, and never both.
use Rattle.std.proofs.Common.{◌≡◌, ℕ, List, [], ◌∷◌, length, map, sym, ap, ◌∙◌, arith}
use Rattle.std.proofs.lemmas.List.{length-append}
use Rattle.zip_lists.specs.Entry.{Entry, item_of}
use Rattle.zip_lists.specs.Ziplist.{header_size, end_mark, IsZiplist}
use Rattle.zip_lists.specs.BadPlace.{IsBad, IsFirstBad}
use Rattle.zip_lists.proofs.Readings.{end-no_entry, same_end}
use Rattle.zip_lists.proofs.Wrongs.{tell-none}
use Rattle.zip_lists.proofs.Outcomes.{Told, closed-behind}

pub one_list : (bytes : List ℕ) (items others : List (List ℕ)) → IsZiplist bytes items →
    IsZiplist bytes others → items ≡ others
one_list bytes items others a b =
    let same = same_end bytes a.entries b.entries (end_mark ∷ []) (end_mark ∷ []) a.whole
    (end-no_entry []) b.whole (end-no_entry []) in
    a.items_are ∙ ap (λ (es : List Entry). map item_of es) same.entries_are ∙ sym b.items_are

pub one_place : (bytes : List ℕ) (place other : ℕ) → IsFirstBad bytes place →
    IsFirstBad bytes other → place ≡ other
one_place bytes place other a b = omega (arith, a.least other b.bad, b.least place a.bad)

pub no_bad_place : (bytes : List ℕ) (items : List (List ℕ)) (place : ℕ) → IsZiplist bytes items →
    ¬ IsBad bytes place
no_bad_place bytes items place zip is =
    let told : Told bytes zip.entries = record {
      counted =
          record { last = zip.last; count = zip.count };
      none =
          tell-none 0 header_size zip.entries zip.tell;
    } in
    let w = closed-behind bytes zip.entries [] place record {
      total = zip.total;
      stands =
          zip.whole;
    } told is in
    omega (arith, length-append w.0 (w.1 ∷ w.2), ap (λ (t : List ℕ). length t) w.3)
