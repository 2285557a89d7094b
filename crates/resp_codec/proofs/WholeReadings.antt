-- The whole reading of a byte list. Serves the laws of laws.rt.
use Rattle.std.proofs.Common.{◌≡◌, ℕ, zero, suc, ◌+◌, ◌≤◌, false, true, List, [], ◌∷◌, ◌++◌, length, take, drop, Some, refl, sym, ap, subst, ◌∙◌, append_assoc, append-nil, length-append, arith, inl, inr}
use Rattle.std.specs.List.{AllByRecursion, concat, list_any}
use Rattle.std.proofs.lemmas.List.{take_at, drop_at}
use Rattle.std.proofs.lemmas.Bool.{or_parts}
use Rattle.core_types.specs.declared.bad_request.BadRequest.{BadRequest}
use Rattle.resp_codec.specs.Spelling.{multibulk, IsRequest, SkipsAll}
use Rattle.resp_codec.specs.Faults.{BadAt}
use Rattle.resp_codec.specs.Stream.{Stream, Passes, Takes, SkipsOnly, Waits, Refuses}
use Rattle.resp_codec.specs.Requests.{Span, IsSpan, bytes_of, requests_of, IsReadAs, End, EndsAs, Requests, behind, quits, up_to_quit, Served}
use Rattle.resp_codec.specs.Requests.End.{Rest, Bad}
use Rattle.resp_codec.proofs.OneReading.{fault_one, fault_stays}
use Rattle.resp_codec.proofs.Spans.{span, all-append, bytes_of-append, requests_of-append, skips, skips-are, bytes_of-skips, requests_of-skips, BeginsNone, BeginsNone-unfinished, BeginsNone-bad, same_spans}
use Rattle.resp_codec.proofs.LineFronts.{BeginsSpan, front_of, span_some, first_some}

abbrev Words : Type 0
Words = List (List ℕ)

abbrev stream : ℕ → List ℕ → Stream
stream passed rest = record { passed = passed; rest = rest }

-- nothing was passed
nothing_read : (bytes : List ℕ) → IsReadAs bytes [] (stream 0 bytes)
nothing_read bytes = record { spans = []; each = tt; whole = refl; passed = refl; requests_are = refl }

ends-behind : (s : Stream) (count : ℕ) (end : End) → EndsAs s end → EndsAs (stream (count + s.passed) s.rest) (behind count end)
ends-behind s count (Rest rest) ends = ends
ends-behind s count (Bad kind offset) ends = (ends.0, ends.1, omega (arith, ends.2))

-- a reading behind spans
Requests-behind : (spans : List Span) (more : List ℕ) (later : List Words) (end : End) → AllByRecursion IsSpan spans → Requests more later end → Requests (bytes_of spans ++ more) (requests_of spans ++ later) (behind (length (bytes_of spans)) end)
Requests-behind spans more later end each r =
    let all = r.read.spans in
    record {
      stream = stream (length (bytes_of spans) + r.stream.passed) r.stream.rest;
      read = record {
        spans = spans ++ all;
        each = all-append spans all each r.read.each;
        whole = ap (λ (bs : List ℕ). bytes_of spans ++ bs) r.read.whole ∙ sym (append_assoc (bytes_of spans) (bytes_of all) r.stream.rest) ∙ ap (λ (bs : List ℕ). bs ++ r.stream.rest) (sym (bytes_of-append spans all));
        passed = omega (arith, r.read.passed, ap (λ (bs : List ℕ). length bs) (bytes_of-append spans all), length-append (bytes_of spans) (bytes_of all));
        requests_are = ap (λ (ws : List Words). requests_of spans ++ ws) r.read.requests_are ∙ sym (requests_of-append spans all);
      };
      ends = ends-behind r.stream (length (bytes_of spans)) end r.ends;
    }

abbrev Reading : List ℕ → Type 0
Reading bytes = (requests : List Words) × (end : End) × Requests bytes requests end

some_first : (bytes : List ℕ) → (BeginsSpan bytes → Reading bytes) → Reading bytes
some_first bytes further =
    elim (front_of bytes) [
      | inl open_end ↦ ([], Rest (length bytes), record { stream = stream 0 bytes; read = nothing_read bytes; ends = (open_end, refl) })
      | inr (inl (kind, at, bad)) ↦ ([], Bad kind at, record { stream = stream 0 bytes; read = nothing_read bytes; ends = (at, bad, omega arith) })
      | inr (inr begins) ↦ further begins
    ]

behind_first : (bytes : List ℕ) (begins : BeginsSpan bytes) → Reading begins.more → Reading bytes
behind_first bytes begins further =
    let first = begins.first ∷ [] in
    let whole : bytes ≡ bytes_of first ++ begins.more = begins.whole ∙ ap (λ (bs : List ℕ). bs ++ begins.more) (sym (append-nil begins.first.bytes)) in (
      requests_of first ++ further.0,
      behind (length (bytes_of first)) further.1,
      subst (λ (bs : List ℕ). Requests bs (requests_of first ++ further.0) (behind (length (bytes_of first)) further.1)) (sym whole) (Requests-behind first begins.more further.0 further.1 (begins.is, tt) further.2),
    )

some_from : (n : ℕ) (bytes : List ℕ) → length bytes ≤ n → Reading bytes
some_from zero bytes few = some_first bytes (λ begins. absurd (omega (arith, span_some bytes begins)))
some_from (suc n) bytes few =
    some_first bytes (λ begins. behind_first bytes begins (some_from n begins.more (omega (arith, ap (λ (bs : List ℕ). length bs) begins.whole, length-append begins.first.bytes begins.more, first_some bytes begins))))

pub some_reading : (bytes : List ℕ) → Reading bytes
some_reading bytes = some_from (length bytes) bytes (omega arith)

ends_none : (s : Stream) (end : End) → EndsAs s end → BeginsNone s.rest
ends_none s (Rest count) ends = BeginsNone-unfinished s.rest ends.0
ends_none s (Bad kind offset) ends = BeginsNone-bad s.rest kind ends.0 ends.1

ends_one : (s t : Stream) (end other : End) → s.passed ≡ t.passed → s.rest ≡ t.rest → EndsAs s end → EndsAs t other → end ≡ other
ends_one s t (Rest count) (Rest left) passed rest a b = ap Rest (omega (arith, a.1, b.1, ap (λ (bs : List ℕ). length bs) rest))
ends_one s t (Rest count) (Bad kind offset) passed rest a b = absurd (a.0.no_fault kind b.0 (subst (λ (bs : List ℕ). BadAt bs kind b.0) (sym rest) b.1))
ends_one s t (Bad kind offset) (Rest count) passed rest a b = absurd (b.0.no_fault kind a.0 (subst (λ (bs : List ℕ). BadAt bs kind a.0) rest a.1))
ends_one s t (Bad kind offset) (Bad other place) passed rest a b =
    let same = fault_one t.rest kind other a.0 b.0 (subst (λ (bs : List ℕ). BadAt bs kind a.0) rest a.1) b.1 in
    let there : offset ≡ place = omega (arith, a.2, b.2, same.1) in
    ap (λ (k : BadRequest). Bad k offset) same.0 ∙ ap (λ (n : ℕ). Bad other n) there

pub one_reading : (bytes : List ℕ) (requests others : List Words) (end other : End) → Requests bytes requests end → Requests bytes others other → (requests ≡ others) × (end ≡ other)
one_reading bytes requests others end other a b =
    let same = same_spans a.read.spans b.read.spans a.stream.rest b.stream.rest a.read.each b.read.each (sym a.read.whole ∙ b.read.whole) (ends_none a.stream end a.ends) (ends_none b.stream other b.ends) in
    let passed : a.stream.passed ≡ b.stream.passed = a.read.passed ∙ ap (λ (ss : List Span). length (bytes_of ss)) same.0 ∙ sym b.read.passed in
    (a.read.requests_are ∙ ap requests_of same.0 ∙ sym b.read.requests_are, ends_one a.stream b.stream end other passed same.1 a.ends b.ends)

-- what is left is read on
pub goes_on : (bytes more : List ℕ) (requests later : List Words) (s : Stream) (end : End) → IsReadAs bytes requests s → Requests (s.rest ++ more) later end → Requests (bytes ++ more) (requests ++ later) (behind s.passed end)
goes_on bytes more requests later s end read further =
    let r = Requests-behind read.spans (s.rest ++ more) later end read.each further in
    let whole : bytes ++ more ≡ bytes_of read.spans ++ (s.rest ++ more) = ap (λ (bs : List ℕ). bs ++ more) read.whole ∙ append_assoc (bytes_of read.spans) s.rest more in
    rw (whole, read.requests_are, read.passed) r

split_left : (a b x y : List ℕ) → a ++ x ≡ b ++ y → length x ≡ length y → (a ≡ b) × (x ≡ y)
split_left a b x y e size =
    let sizes : length a ≡ length b = omega (arith, ap (λ (bs : List ℕ). length bs) e, length-append a x, length-append b y) in
    (sym (take_at a x (length a) refl) ∙ ap (λ (bs : List ℕ). take (length a) bs) e ∙ take_at b y (length a) (sym sizes), sym (drop_at a x (length a) refl) ∙ ap (λ (bs : List ℕ). drop (length a) bs) e ∙ drop_at b y (length a) (sym sizes))

pub rest_goes_on : (front left more : List ℕ) (requests later : List Words) (end : End) → Requests (front ++ left) requests (Rest (length left)) → Requests (left ++ more) later end →
    Requests (front ++ (left ++ more)) (requests ++ later) (behind (length front) end)
rest_goes_on front left more requests later end r further =
    let parts = split_left front (bytes_of r.read.spans) left r.stream.rest r.read.whole r.ends.1 in
    let on = goes_on (front ++ left) more requests later r.stream end r.read (subst (λ (bs : List ℕ). Requests (bs ++ more) later end) parts.1 further) in
    let passed : r.stream.passed ≡ length front = r.read.passed ∙ ap (λ (bs : List ℕ). length bs) (sym parts.0) in
    subst (λ (n : ℕ). Requests (front ++ (left ++ more)) (requests ++ later) (behind n end)) passed (subst (λ (bs : List ℕ). Requests bs (requests ++ later) (behind r.stream.passed end)) (append_assoc front left more) on)

pub feed_on : (bytes more : List ℕ) (requests : List Words) (old new : Stream) → IsReadAs bytes requests old → new.passed ≡ old.passed → new.rest ≡ old.rest ++ more → IsReadAs (bytes ++ more) requests new
feed_on bytes more requests old new read passed rest = record {
  spans = read.spans;
  each = read.each;
  whole = ap (λ (bs : List ℕ). bs ++ more) read.whole ∙ append_assoc (bytes_of read.spans) old.rest more ∙ ap (λ (bs : List ℕ). bytes_of read.spans ++ bs) (sym rest);
  passed = passed ∙ read.passed;
  requests_are = read.requests_are;
}

pub bad_stays : (bytes more : List ℕ) (requests : List Words) (kind : BadRequest) (offset : ℕ) → Requests bytes requests (Bad kind offset) → Requests (bytes ++ more) requests (Bad kind offset)
bad_stays bytes more requests kind offset r =
    let new = stream r.stream.passed (r.stream.rest ++ more) in
    record {
      stream = new;
      read = feed_on bytes more requests r.stream new r.read refl refl;
      ends = (r.ends.0, fault_stays r.stream.rest more kind r.ends.0 r.ends.1, r.ends.2);
    }

pub written_back : (words : Words) (more : List ℕ) (later : List Words) (end : End) → IsRequest words → Requests more later end → Requests (multibulk words ++ more) (words ∷ later) (behind (length (multibulk words)) end)
written_back words more later end request further =
    let r = Requests-behind (span (multibulk words) (Some words) ∷ []) more later end ((request, inl refl), tt) further in
    subst (λ (bs : List ℕ). Requests (bs ++ more) (words ∷ later) (behind (length bs) end)) (append-nil (multibulk words)) r

-- more spans were passed
read_on : (bytes : List ℕ) (requests : List Words) (old new : Stream) (more : List Span) → IsReadAs bytes requests old → AllByRecursion IsSpan more → Passes old new (bytes_of more) → IsReadAs bytes (requests ++ requests_of more) new
read_on bytes requests old new more read each passes =
    let joined = bytes_of-append read.spans more in
    record {
      spans = read.spans ++ more;
      each = all-append read.spans more read.each each;
      whole = read.whole ∙ ap (λ (bs : List ℕ). bytes_of read.spans ++ bs) passes.rest ∙ sym (append_assoc (bytes_of read.spans) (bytes_of more) new.rest) ∙ ap (λ (bs : List ℕ). bs ++ new.rest) (sym joined);
      passed = omega (arith, passes.passed, read.passed, ap (λ (bs : List ℕ). length bs) joined, length-append (bytes_of read.spans) (bytes_of more));
      requests_are = ap (λ (ws : List Words). ws ++ requests_of more) read.requests_are ∙ sym (requests_of-append read.spans more);
    }

skipped_on : (bytes : List ℕ) (requests : List Words) (old new : Stream) (skipped : List (List ℕ)) → IsReadAs bytes requests old → SkipsAll skipped → Passes old new (concat skipped) → IsReadAs bytes requests new
skipped_on bytes requests old new skipped read all passes =
    let passed = subst (λ (bs : List ℕ). Passes old new bs) (sym (bytes_of-skips skipped)) passes in
    let same : requests ++ requests_of (skips skipped) ≡ requests = ap (λ (ws : List Words). requests ++ ws) (requests_of-skips skipped) ∙ append-nil requests in
    subst (λ (ws : List Words). IsReadAs bytes ws new) same (read_on bytes requests old new (skips skipped) read (skips-are skipped all) passed)

pub skip_on : (bytes : List ℕ) (requests : List Words) (old new : Stream) → IsReadAs bytes requests old → SkipsOnly old new → IsReadAs bytes requests new
skip_on bytes requests old new read s = skipped_on bytes requests old new s.skipped read s.skips s.passes

pub request_on : (bytes : List ℕ) (requests : List Words) (old new : Stream) (words : Words) → IsReadAs bytes requests old → Takes old new words → IsReadAs bytes (requests ++ words ∷ []) new
request_on bytes requests old new words read t =
    let last = span t.bytes (Some words) ∷ [] in
    let more = skips t.skipped ++ last in
    let bytes_are : bytes_of more ≡ concat t.skipped ++ t.bytes = bytes_of-append (skips t.skipped) last ∙ ap (λ (bs : List ℕ). bs ++ bytes_of last) (bytes_of-skips t.skipped) ∙ ap (λ (bs : List ℕ). concat t.skipped ++ bs) (append-nil t.bytes) in
    let words_are : requests_of more ≡ words ∷ [] = requests_of-append (skips t.skipped) last ∙ ap (λ (ws : List Words). ws ++ words ∷ []) (requests_of-skips t.skipped) in
    let passed = subst (λ (bs : List ℕ). Passes old new bs) (sym bytes_are) t.passes in
    subst (λ (ws : List Words). IsReadAs bytes (requests ++ ws) new) words_are (read_on bytes requests old new more read (all-append (skips t.skipped) last (skips-are t.skipped t.skips) (t.spells, tt)) passed)

pub more_on : (bytes : List ℕ) (requests : List Words) (old new : Stream) → IsReadAs bytes requests old → Waits old new → IsReadAs bytes requests new × Requests bytes requests (Rest (length new.rest))
more_on bytes requests old new read w =
    let on = skipped_on bytes requests old new w.skipped read w.skips w.passes in
    (on, record { stream = new; read = on; ends = (w.unfinished, refl) })

pub bad_on : (bytes : List ℕ) (requests : List Words) (old new : Stream) (kind : BadRequest) (offset : ℕ) → IsReadAs bytes requests old → Refuses old new kind offset → IsReadAs bytes requests new × Requests bytes requests (Bad kind offset)
bad_on bytes requests old new kind offset read r =
    let on = skipped_on bytes requests old new r.skipped read r.skips r.passes in
    (on, record { stream = new; read = on; ends = (r.at, r.bad, r.place) })

pub new_read : (s : Stream) → s.passed ≡ 0 → s.rest ≡ [] → IsReadAs [] [] s
new_read s passed rest = record { spans = []; each = tt; whole = sym rest; passed = passed; requests_are = refl }

-- requests up to QUIT
none-quits : (front later : List Words) → list_any quits front ≡ false → up_to_quit (front ++ later) ≡ front ++ up_to_quit later
none-quits [] later none = refl
none-quits (words ∷ front) later none =
    let parts = or_parts (quits words) (list_any quits front) none in
    rw parts.0 (ap (λ (ws : List Words). words ∷ ws) (none-quits front later parts.1))

last-quits : (last : Words) (later : List Words) → quits last ≡ true → up_to_quit (last ∷ later) ≡ last ∷ []
last-quits last later quit = rw quit refl

pub some_served : (bytes : List ℕ) → (served : List Words) × Served bytes served
some_served bytes =
    let r = some_reading bytes in
    (up_to_quit r.0, record { requests = r.0; end = r.1; reading = r.2; served_are = refl })

pub one_served : (bytes : List ℕ) (served other : List Words) → Served bytes served → Served bytes other → served ≡ other
one_served bytes served other a b =
    a.served_are ∙ ap up_to_quit (one_reading bytes a.requests b.requests a.end b.end a.reading b.reading).0 ∙ sym b.served_are

pub served_to_quit : (bytes more : List ℕ) (front : List Words) (last : Words) (s : Stream) → IsReadAs bytes (front ++ last ∷ []) s → list_any quits front ≡ false → quits last ≡ true → Served (bytes ++ more) (front ++ last ∷ [])
served_to_quit bytes more front last s read none quit =
    let r = some_reading (s.rest ++ more) in
    record {
      requests = front ++ last ∷ [] ++ r.0;
      end = behind s.passed r.1;
      reading = goes_on bytes more (front ++ last ∷ []) r.0 s r.1 read r.2;
      served_are = sym (ap up_to_quit (append_assoc front (last ∷ []) r.0) ∙ none-quits front (last ∷ r.0) none ∙ ap (λ (ws : List Words). front ++ ws) (last-quits last r.0 quit));
    }

pub served_all : (bytes : List ℕ) (requests : List Words) (end : End) → Requests bytes requests end → list_any quits requests ≡ false → Served bytes requests
served_all bytes requests end r none = record {
  requests = requests;
  end = end;
  reading = r;
  served_are = sym (ap up_to_quit (sym (append-nil requests)) ∙ none-quits requests [] none ∙ append-nil requests);
}

pub served_front : (bytes more : List ℕ) (requests served : List Words) (s : Stream) → IsReadAs bytes requests s → list_any quits requests ≡ false → Served (bytes ++ more) served → (later : List Words) × (served ≡ requests ++ later)
served_front bytes more requests served s read none of =
    let r = some_reading (s.rest ++ more) in
    let same = one_reading (bytes ++ more) of.requests (requests ++ r.0) of.end (behind s.passed r.1) of.reading (goes_on bytes more requests r.0 s r.1 read r.2) in
    (up_to_quit r.0, of.served_are ∙ ap up_to_quit same.0 ∙ none-quits requests r.0 none)
