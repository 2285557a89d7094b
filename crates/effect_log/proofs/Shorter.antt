-- Serves the clause `cut` of `log_goes_on`: a torn unit of which less is there is a torn one, or
-- none.
use Rattle.std.proofs.Common.{◌≡◌, ◌⊎◌, ℕ, ◌+◌, ◌-◌, ◌<◌, ◌≤◌, true, false, List, [], ◌∷◌, ◌++◌, length, take, drop, refl, sym, ap, subst, ◌∙◌, append_assoc, arith, inl, inr}
use Rattle.std.specs.List.{AllByRecursion}
use Rattle.std.proofs.lemmas.List.{length-append, take-append-drop}
use Rattle.std.proofs.Math.Seq.{take-append-add}
use Rattle.core_types.specs.Keys.{Keys}
use Rattle.core_types.specs.declared.bad_request.BadRequest.{BadRequest}
use Rattle.resp_codec.specs.Inline.{begins_array}
use Rattle.resp_codec.specs.Spelling.{multibulk}
use Rattle.resp_codec.specs.Array.{BeginsRequest, IsBadArray}
use Rattle.resp_codec.proofs.OneReading.{fault_stays}
use Rattle.effect_log.specs.declared.reason.Reason.{Reason}
use Rattle.effect_log.specs.declared.reason.Reason.TheVariants as reason
use Rattle.effect_log.specs.Log.{Unit, units_bytes, IsUnit, IsTorn, IsNoArray, BeginsNamed, FaultAt, HoldsUnits}
use Rattle.effect_log.specs.Replay.{Meaning, Holds}
use Rattle.effect_log.proofs.OneLog.{IsReadable, readable, holds_unbroken}
use Rattle.effect_log.proofs.OneReplay.{HasUnits, has_one, has_behind}

array_more : (bytes more : List ℕ) → begins_array bytes ≡ true → begins_array (bytes ++ more) ≡ true
array_more [] more is = cc
array_more (byte ∷ bytes) more is = is

no_array_more : (bytes more : List ℕ) → 0 < length bytes → begins_array bytes ≡ false → begins_array (bytes ++ more) ≡ false
no_array_more [] more some is = absurd (omega arith)
no_array_more (byte ∷ bytes) more some is = is

bad_array_more : (bytes more : List ℕ) (kind : BadRequest) (at : ℕ) → IsBadArray bytes kind at → IsBadArray (bytes ++ more) kind at
bad_array_more bytes more kind at bad = record { array = array_more bytes more bad.array; bad = fault_stays bytes more kind at bad.bad }

none_more : (bytes more : List ℕ) → IsNoArray bytes → IsNoArray (bytes ++ more)
none_more bytes more (inl (some, other)) = inl (omega (arith, length-append bytes more), no_array_more bytes more some other)
none_more bytes more (inr empty) = inr record {
  front = empty.front;
  more = empty.more ++ more;
  empty = empty.empty;
  whole = ap (λ (bs : List ℕ). bs ++ more) empty.whole ∙ append_assoc empty.front empty.more more;
}

begins_more : (bytes more : List ℕ) (words : List (List ℕ)) → BeginsRequest bytes words → BeginsRequest (bytes ++ more) words
begins_more bytes more words begins = record {
  request = begins.request;
  more = begins.more ++ more;
  whole = ap (λ (bs : List ℕ). bs ++ more) begins.whole ∙ append_assoc (multibulk words) begins.more more;
}

named_more : (name bytes more : List ℕ) → BeginsNamed name bytes → BeginsNamed name (bytes ++ more)
named_more name bytes more is = record { words = is.words; begins = begins_more bytes more is.words is.begins; named = is.named }

-- one thing behind another
further : (bytes front rest more : List ℕ) → bytes ≡ front ++ rest → bytes ++ more ≡ front ++ (rest ++ more)
further bytes front rest more e = ap (λ (bs : List ℕ). bs ++ more) e ∙ append_assoc front rest more

-- a fault of form stays one when more bytes come
fault_more : (bytes more : List ℕ) (why : Reason) (at : ℕ) → FaultAt bytes why at → FaultAt (bytes ++ more) why at
fault_more bytes more (reason.Request kind) at bad = record {
  before = bad.before;
  rest = bad.rest ++ more;
  place = bad.place;
  due = bad.due;
  bad = bad_array_more bad.rest more kind bad.place bad.bad;
  whole = further bytes bad.before bad.rest more bad.whole;
  place_is = bad.place_is;
}
fault_more bytes more reason.NotMultibulk at bad = record {
  before = bad.before;
  rest = bad.rest ++ more;
  due = bad.due;
  none = none_more bad.rest more bad.none;
  whole = further bytes bad.before bad.rest more bad.whole;
  place_is = bad.place_is;
}
fault_more bytes more reason.NestedMulti at bad = record {
  before = bad.before;
  rest = bad.rest ++ more;
  opened = bad.opened;
  again = named_more _ bad.rest more bad.again;
  whole = further bytes bad.before bad.rest more bad.whole;
  place_is = bad.place_is;
}
fault_more bytes more reason.LoneExec at bad = record { closes = named_more _ bytes more bad.closes; place_is = bad.place_is }
fault_more bytes more reason.NotAnEffect at bad = absurd bad
fault_more bytes more reason.EffectRefused at bad = absurd bad
fault_more bytes more (reason.Rdb cause) at bad = absurd bad

each_of : (bytes : List ℕ) (units : List Unit) → HasUnits bytes units → AllByRecursion IsUnit units
each_of bytes units (inl (kept, holds)) = holds.each
each_of bytes units (inr (why, at, breaks)) = breaks.each

module _ (front more : List ℕ) (torn : ((front ++ more) ≡ []) ⊎ IsTorn (front ++ more)) where
  -- all of it is one torn unit, or nothing
  held : HoldsUnits (front ++ more) [] 0
  held = record { each = tt; rest = front ++ more; whole = refl; place = refl; torn = torn }

  no_unit : (u : Unit) (us : List Unit) (rest : List ℕ) → HasUnits front (u ∷ us) → front ≡ units_bytes (u ∷ us) ++ rest → ⊥
  no_unit u us rest has whole =
      let each = each_of front (u ∷ us) has in
      let behind = has_behind (u ∷ us) (rest ++ more) each (readable (rest ++ more)) in
      let all : units_bytes (u ∷ us) ++ (rest ++ more) ≡ front ++ more = sym (further front (units_bytes (u ∷ us)) rest more whole) in
      let same = has_one (front ++ more) [] ((u ∷ us) ++ behind.0) (inl (0, held)) (subst (λ (bs : List ℕ). HasUnits bs ((u ∷ us) ++ behind.0)) all behind.1) in
      absurd cc

  shorter : IsReadable front → (front ≡ []) ⊎ IsTorn front
  shorter (inl ([], kept, holds)) = subst (λ (bs : List ℕ). (bs ≡ []) ⊎ IsTorn bs) (sym holds.whole) holds.torn
  shorter (inl (u ∷ us, kept, holds)) = absurd (no_unit u us holds.rest (inl (kept, holds)) holds.whole)
  shorter (inr ([], why, at, breaks)) =
      absurd (holds_unbroken (front ++ more) [] [] 0 breaks.place why held record {
        each = tt;
        rest = front ++ more;
        place = breaks.place;
        whole = refl;
        fault = fault_more front more why breaks.place (subst (λ (bs : List ℕ). FaultAt bs why breaks.place) (sym breaks.whole) breaks.fault);
        place_is = omega arith;
      })
  shorter (inr (u ∷ us, why, at, breaks)) = absurd (no_unit u us breaks.rest (inr (why, at, breaks)) breaks.whole)

torn_cut : (rest : List ℕ) (count : ℕ) → (rest ≡ []) ⊎ IsTorn rest → (take count rest ≡ []) ⊎ IsTorn (take count rest)
torn_cut rest count torn =
    let parts = take-append-drop count rest in
    shorter (take count rest) (drop count rest) (subst (λ (bs : List ℕ). (bs ≡ []) ⊎ IsTorn bs) (sym parts) torn) (readable (take count rest))

-- A log that is cut behind its whole units stands for the same keys.
pub Holds-cut : (replay : Meaning) (bytes : List ℕ) (keys : Keys) (kept count : ℕ) → Holds replay bytes keys kept → kept ≤ count → Holds replay (take count bytes) keys kept
Holds-cut replay bytes keys kept count log within =
    let units = units_bytes log.units in
    let size : count ≡ length units + (count - length units) = omega (arith, log.holds.place, within) in
    record {
      units = log.units;
      holds = record {
        each = log.holds.each;
        rest = take (count - length units) log.holds.rest;
        whole = ap (λ (bs : List ℕ). take count bs) log.holds.whole ∙ ap (λ (n : ℕ). take n (units ++ log.holds.rest)) size ∙ take-append-add units log.holds.rest (count - length units);
        place = log.holds.place;
        torn = torn_cut log.holds.rest (count - length units) log.holds.torn;
      };
      makes = log.makes;
    }
