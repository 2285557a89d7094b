-- Serves clause ends of `serve_source`: requests one after the other, and how their stream ends.
use Rattle.std.proofs.Common.{◌≡◌, refl, sym, ap, subst, ◌∙◌, ℕ, Bool, true, false, ◌||◌, List, [], ◌∷◌, ◌++◌, length, length-append, take, append-nil, if◌then◌else◌, Option, arith}
use Rattle.std.specs.List.{list_any}
use Rattle.std.specs.Io.KnownBytes.{Appends}
use Rattle.std.proofs.KnownBytes.{Appends-nil, Appends-trans}
use Rattle.std.proofs.lemmas.Bool.{false≢true}
use Rattle.std.proofs.lemmas.List.{append_assoc}
use Rattle.core_types.specs.declared.event.Event.{Event}
use Rattle.disk_model.specs.Files.{Become, with_appended}
use Rattle.disk_model.specs.Runs.{LeavesOnly}
use Rattle.disk_model.specs.Told.{Told, files_told}
use Rattle.disk_model.specs.declared.file_name.FileName.TheVariants.{Log}
use Rattle.resp_codec.specs.Requests.{quits, up_to_quit}
use Rattle.host_core.specs.Events.{step}
use Rattle.host_core.specs.Fold as fold
use Rattle.durable_host.specs.Crash.{HoldsFrom}
use Rattle.durable_host.specs.Host.{Host}
use Rattle.durable_host.specs.Kept.{Kept, state_now}
use Rattle.server_shell.specs.Making.{safe_bytes, tells, with_events, writes}
use Rattle.server_shell.specs.Requests.{Serves, ServesPart}
use Rattle.server_shell.specs.Runs.{request_events, served_events}
use Rattle.server_shell.specs.Stream.{IsCaughtUp}
use Rattle.server_shell.proofs.ClientStream.{said_more}
use Rattle.server_shell.proofs.Joining.{appended_twice, both_crash, kept_twice, later_size, logged_later, logged_whole, whole_size, nothing_appended, now_after, writes_more}

-- ---- two servings, one after the other

module _ {D : Type 0} (told : D → Told) where
  pub serves_nothing : (host : Host D) (got : Option (List ℕ)) → IsCaughtUp told host → LeavesOnly (told host.dir) (told host.dir) (HoldsFrom (with_events [] host.kept) host.safe) → Serves told [] host host got got
  serves_nothing host got caught crash = record {
    kept = ap (λ events. record host.kept { events = events }) (sym (append-nil host.kept.events));
    caught_up = caught;
    safe = omega arith;
    ending = refl;
    log = nothing_appended (files_told (told host.dir));
    crash = crash;
    sent = Appends-nil got;
  }

  module _ (a b c : Host D) (first second : List Event) (got got' got'' : Option (List ℕ)) (one : Serves told first a b got got') where
    now_b : state_now b.kept ≡ fold.after step (state_now a.kept) first
    now_b = ap state_now one.kept ∙ now_after a.kept first

    told_b : tells b.kept.opening b.kept.events ≡ tells a.kept.opening a.kept.events ++ tells (state_now a.kept) first
    told_b = ap (λ (k : Kept). tells k.opening k.events) one.kept ∙ said_more a.kept.opening a.kept.events first

    pub serves_both : Serves told second b c got' got'' → Serves told (first ++ second) a c got got''
    serves_both other = record {
      kept = other.kept ∙ ap (with_events second) one.kept ∙ kept_twice a.kept first second;
      caught_up = other.caught_up;
      safe = omega (arith, one.safe, other.safe);
      ending = other.ending ∙ one.ending;
      log = subst (λ text. Become (with_appended Log text) (files_told (told a.dir)) (files_told (told c.dir)))
          (ap (λ state. writes (state_now a.kept) first ++ writes state second) now_b ∙ sym (writes_more (state_now a.kept) first second))
          (appended_twice (writes (state_now a.kept) first) (writes (state_now b.kept) second) (files_told (told a.dir)) (files_told (told b.dir)) (files_told (told c.dir)) one.log other.log);
      crash = both_crash told a b c first second one.kept one.safe one.crash other.crash;
      sent = subst (Appends got got'') (ap (λ state. tells (state_now a.kept) first ++ tells state second) now_b ∙ sym (said_more (state_now a.kept) first second))
          (Appends-trans got got' got'' (tells (state_now a.kept) first) (tells (state_now b.kept) second) one.sent other.sent);
    }

    pub serves_part : (within : List Event) → ServesPart told second within b c got' got'' → ServesPart told (first ++ second) within a c got got''
    serves_part within other =
        let front = tells (state_now a.kept) first in
        let back = tells (state_now b.kept) second in
        let both : front ++ back ≡ tells (state_now a.kept) (first ++ second) = ap (λ state. front ++ tells state second) now_b ∙ sym (said_more (state_now a.kept) first second) in
        let bytes : front ++ (back ++ other.bytes) ≡ tells (state_now a.kept) (first ++ second) ++ other.bytes = sym (append_assoc front back other.bytes) ∙ ap (λ all. all ++ other.bytes) both in
        record {
          made = other.made;
          rest = other.rest;
          parts = other.parts;
          kept = other.kept ∙ ap (with_events (second ++ other.made)) one.kept ∙ kept_twice a.kept first (second ++ other.made)
              ∙ ap (λ events. with_events events a.kept) (sym (append_assoc first second other.made));
          keeps = other.keeps;
          safe = omega (arith, one.safe, other.safe);
          ending = other.ending ∙ one.ending;
          logged = logged_later told a b c first (second ++ other.made) ((first ++ second) ++ other.made) (sym (append_assoc first second other.made)) one.kept one.log other.logged;
          whole = omega (
            arith,
            other.whole,
            later_size told a b c first (second ++ other.made) ((first ++ second) ++ other.made) (sym (append_assoc first second other.made)) one.kept one.log other.logged,
            ap length (writes_more (state_now a.kept) first second),
            ap (λ state. length (writes state second)) now_b,
            length-append (writes (state_now a.kept) first) (writes (fold.after step (state_now a.kept) first) second),
          );
          crash = subst (λ events. LeavesOnly (told a.dir) (told c.dir) (HoldsFrom (with_events events a.kept) a.safe)) (sym (append_assoc first second within))
              (both_crash told a b c first (second ++ within) one.kept one.safe one.crash other.crash);
          bytes = other.bytes;
          sent = subst (Appends got got'') bytes (Appends-trans got got' got'' front (back ++ other.bytes) one.sent other.sent);
          count = other.count;
          safely = ap (λ sent. tells a.kept.opening a.kept.events ++ sent) (sym bytes)
              ∙ sym (append_assoc (tells a.kept.opening a.kept.events) front (back ++ other.bytes))
              ∙ ap (λ all. all ++ (back ++ other.bytes)) (sym told_b) ∙ other.safely;
        }

  -- what was served to its end, and nothing behind it
  pub whole_part : (a b : Host D) (events : List Event) (got got' : Option (List ℕ)) → Serves told events a b got got' → (safe : (n : ℕ) × (tells b.kept.opening b.kept.events ≡ take n (safe_bytes b)))
      → ServesPart told events [] a b got got'
  whole_part a b events got got' one safe =
      let text = tells (state_now a.kept) events in
      record {
        made = [];
        rest = [];
        parts = refl;
        kept = one.kept ∙ ap (λ all. with_events all a.kept) (sym (append-nil events));
        keeps = one.caught_up.keeps;
        safe = one.safe;
        ending = one.ending;
        logged = logged_whole told a b events (events ++ []) (sym (append-nil events)) one.log;
        whole = omega (arith, whole_size told a b events (events ++ []) (sym (append-nil events)) one.log);
        crash = subst (λ all. LeavesOnly (told a.dir) (told b.dir) (HoldsFrom (with_events all a.kept) a.safe)) (sym (append-nil events)) one.crash;
        bytes = [];
        sent = subst (Appends got got') (sym (append-nil text)) one.sent;
        count = safe.0;
        safely = ap (λ sent. tells a.kept.opening a.kept.events ++ sent) (append-nil text) ∙ sym (told_b a b b events [] got got' got' one) ∙ safe.1;
      }

-- ---- one request more

pub request_more : (requests : List (List (List ℕ))) (moments : List ℕ) (words : List (List ℕ)) (moment : ℕ) → length moments ≡ length requests
    → served_events (requests ++ words ∷ []) (moments ++ moment ∷ []) ≡ served_events requests moments ++ request_events moment words
request_more [] [] words moment each = refl
request_more [] (other ∷ moments) words moment each = absurd (omega (arith, each))
request_more (request ∷ requests) [] words moment each = absurd (omega (arith, each))
request_more (request ∷ requests) (other ∷ moments) words moment each =
    ap (λ events. request_events other request ++ events) (request_more requests moments words moment (omega (arith, each)))

-- none stands behind a QUIT, where none of them is one but the last
test_served : (words : List (List ℕ)) (more : List (List (List ℕ))) (t a : Bool) → (t || a) ≡ false → (a ≡ false → up_to_quit more ≡ more) → words ∷ (if t then [] else up_to_quit more) ≡ words ∷ more
test_served words more true a none on = absurd (false≢true (sym none))
test_served words more false a none on = ap (λ rest. words ∷ rest) (on none)

pub none_behind : (requests : List (List (List ℕ))) → list_any quits requests ≡ false → up_to_quit requests ≡ requests
none_behind [] none = refl
none_behind (words ∷ more) none = test_served words more (quits words) (list_any quits more) none (none_behind more)

alone : (words : List (List ℕ)) (t : Bool) → words ∷ (if t then [] else []) ≡ words ∷ []
alone words true = refl
alone words false = refl

pub last_served : (requests : List (List (List ℕ))) (words : List (List ℕ)) → list_any quits requests ≡ false → up_to_quit (requests ++ words ∷ []) ≡ requests ++ words ∷ []
last_served [] words none = alone words (quits words)
last_served (request ∷ more) words none = test_served request (more ++ words ∷ []) (quits request) (list_any quits more) none (last_served more words)

or_false : (t : Bool) → t ≡ false → (t || false) ≡ false
or_false true is = is
or_false false is = refl

either_none : (t rest more : Bool) → (t || rest) ≡ false → (rest ≡ false → more ≡ false) → (t || more) ≡ false
either_none true rest more none on = absurd (false≢true (sym none))
either_none false rest more none on = on none

pub none_more : (requests : List (List (List ℕ))) (words : List (List ℕ)) → list_any quits requests ≡ false → quits words ≡ false → list_any quits (requests ++ words ∷ []) ≡ false
none_more [] words none last = or_false (quits words) last
none_more (request ∷ requests) words none last =
    either_none (quits request) (list_any quits requests) (list_any quits (requests ++ words ∷ [])) none (λ rest. none_more requests words rest last)

or_true : (t : Bool) → t ≡ true → (t || false) ≡ true
or_true true is = refl
or_true false is = is

either_one : (t more : Bool) → more ≡ true → (t || more) ≡ true
either_one true more is = refl
either_one false more is = is

pub some_quits : (requests : List (List (List ℕ))) (words : List (List ℕ)) → quits words ≡ true → list_any quits (requests ++ words ∷ []) ≡ true
some_quits [] words last = or_true (quits words) last
some_quits (request ∷ requests) words last = either_one (quits request) (list_any quits (requests ++ words ∷ [])) (some_quits requests words last)
