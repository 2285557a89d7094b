-- Serves clauses told and joined of `replies_are_told`.
use Rattle.std.proofs.Common.{◌≡◌, ◌<◌, refl, sym, ap, subst, ◌∙◌, ℕ, ◌==◌, Bool, true, false, cond, [], ◌∷◌, ◌++◌, Option, Some, None, arith}
use Rattle.std.specs.Option.{option_map}
use Rattle.std.specs.Ordering.{nat_cmp, eq_by_cmp}
use Rattle.std.specs.Cmp.{nat_cmp_total, eq_by_cmp_equiv}
use Rattle.std.proofs.lemmas.Bool.{false≢true}
use Rattle.std.proofs.lemmas.Bool.Decides.{nat_tests}
use Rattle.std.proofs.lemmas.List.{append-nil, append_assoc}
use Rattle.std.proofs.lemmas.Map.Lookups.{exact_unsigned}
use Rattle.std.proofs.lemmas.Map.Views.{tells_apart}
use Rattle.std.proofs.lemmas.Option.{none-some, same_Some}
use Rattle.std.specs.FinMap.{get-insert, get-remove}
use Rattle.core_types.specs.declared.reply.Reply.{Reply}
use Rattle.resp_codec.specs.ReplyText.{text}
use Rattle.client_book.specs.Client.{new_client, tells, closes}
use Rattle.client_book.specs.Register.{Roll}
use Rattle.client_book.specs.declared.client.Client.{Client}
use Rattle.host_core.specs.Clients.{client_at, changed, with_record, with_new, without_client, told}
use Rattle.host_core.specs.Fold.{bytes_to}
use Rattle.host_core.specs.Laws.{IsTold}

-- whether one number is another, as the map compares them
abbrev is_same : ℕ → ℕ → Bool
is_same = eq_by_cmp nat_cmp

-- the record of one client becomes f of it, and no other changes
abbrev pub BecomesAt : (Client → Client) → ℕ → Roll → Roll → Type 0
BecomesAt f c before after =
    (q : ℕ) → client_at after q ≡ cond (is_same q c) (option_map f (client_at before q)) (client_at before q)

none_of_test : (f : Client → Client) (q c : ℕ) (roll : Roll) → client_at roll c ≡ None → (b : Bool) → is_same q c ≡ b
    → client_at roll q ≡ cond b (option_map f (client_at roll q)) (client_at roll q)
none_of_test f q c roll none true same =
    let is : client_at roll q ≡ None = ap (client_at roll) (tells_apart exact_unsigned q c same) ∙ none in
    is ∙ sym (ap (option_map f) is)
none_of_test f q c roll none false apart = refl

put_of_test : (f : Client → Client) (q c : ℕ) (roll : Roll) (client : Client) → client_at roll c ≡ Some client → (b : Bool) → is_same q c ≡ b
    → cond b (Some (f client)) (client_at roll q) ≡ cond b (option_map f (client_at roll q)) (client_at roll q)
put_of_test f q c roll client there true same =
    sym (ap (option_map f) (ap (client_at roll) (tells_apart exact_unsigned q c same) ∙ there))
put_of_test f q c roll client there false apart = refl

at_record : (f : Client → Client) (c : ℕ) (roll : Roll) (o : Option Client) → client_at roll c ≡ o → BecomesAt f c roll (with_record f c roll o)
at_record f c roll None none q = none_of_test f q c roll none _ refl
at_record f c roll (Some client) there q = get-insert nat_cmp_total roll.clients c (f client) q ∙ put_of_test f q c roll client there _ refl

pub at_changed : (f : Client → Client) (c : ℕ) (roll : Roll) → BecomesAt f c roll (changed f c roll)
at_changed f c roll = at_record f c roll (client_at roll c) refl

last_record : (f : Client → Client) (c : ℕ) (roll : Roll) (o : Option Client) → (with_record f c roll o).last ≡ roll.last
last_record f c roll None = refl
last_record f c roll (Some client) = refl

pub last_changed : (f : Client → Client) (c : ℕ) (roll : Roll) → (changed f c roll).last ≡ roll.last
last_changed f c roll = last_record f c roll (client_at roll c)

-- ---- who joined

abbrev pub Joined : Roll → Type 0
Joined roll = (client : ℕ) → roll.last < client → client_at roll client ≡ None

none_both : (f : Client → Client) (b : Bool) {o : Option Client} → o ≡ None → cond b (option_map f o) o ≡ None
none_both f true none = ap (option_map f) none
none_both f false none = none

pub joined-changed : (f : Client → Client) (c : ℕ) (roll : Roll) → Joined roll → Joined (changed f c roll)
joined-changed f c roll joined client above =
    at_changed f c roll client ∙ none_both f (is_same client c) (joined client (subst (λ last. last < client) (last_changed f c roll) above))

new_of_test : (roll : Roll) (client c : ℕ) → c < client → roll.last < client → Joined roll → (b : Bool) → is_same client c ≡ b
    → cond b (Some new_client) (client_at roll client) ≡ None
new_of_test roll client c above over joined true same = absurd (omega (arith, tells_apart exact_unsigned client c same, above))
new_of_test roll client c above over joined false apart = joined client over

pub joined-new : (c : ℕ) (roll : Roll) → roll.last < c → Joined roll → Joined (with_new c roll)
joined-new c roll new joined client above =
    get-insert nat_cmp_total roll.clients c new_client client ∙ new_of_test roll client c above (omega (arith, new, above)) joined _ refl

gone_of_test : (b : Bool) {o : Option Client} → o ≡ None → cond b None o ≡ None
gone_of_test true none = refl
gone_of_test false none = none

pub joined-without : (c : ℕ) (roll : Roll) → Joined roll → Joined (without_client c roll)
joined-without c roll joined client above =
    get-remove nat_cmp_total roll.clients c client ∙ gone_of_test (is_same client c) (joined client above)

-- ---- what a client is told

pub told_nothing : (was now : Client) {o : Option Client} → o ≡ Some was → o ≡ Some now → IsTold was now []
told_nothing was now here there =
    let same : was ≡ now = same_Some was now (sym here ∙ there) in
    subst (λ c. IsTold was c []) same (record { from = refl; told = sym (append-nil was.told) })

-- a change of the record that leaves the replies
pub record LeavesReplies (g : Client → Client) : Type 0 where
  pub from : (client : Client) → (g client).from ≡ client.from
  pub told : (client : Client) → (g client).told ≡ client.told

module _ (g : Client → Client) (leaves : LeavesReplies g) (c : ℕ) (reply : Reply) (before between : Roll)
    (changes : BecomesAt g c before between) where
  told_of_test : (q : ℕ) (was now : Client) → client_at before q ≡ Some was → client_at (told reply c between) q ≡ Some now
      → (b : Bool) → is_same q c ≡ b → IsTold was now (cond (c == q) (text reply) [] ++ [])
  told_of_test q was now here there true same =
      let is : q ≡ c = tells_apart exact_unsigned q c same in
      let test : (c == q) ≡ true = grind (arith, nat_tests, is) in
      let put : Some now ≡ Some (tells (text reply) (g was)) = sym there ∙ at_changed (tells (text reply)) c between q
      ∙ ap (λ b. cond b (option_map (tells (text reply)) (client_at between q)) (client_at between q)) same
      ∙ ap (option_map (tells (text reply))) (changes q ∙ ap (λ b. cond b (option_map g (client_at before q)) (client_at before q)) same ∙ ap (option_map g) here) in
      let now_is : now ≡ tells (text reply) (g was) = same_Some now _ put in
      rw (test, now_is) (record { from = leaves.from was; told = ap (λ old. old ++ text reply) (leaves.told was) ∙ sym (append-nil (was.told ++ text reply)) ∙ append_assoc was.told (text reply) [] })
  told_of_test q was now here there false apart =
      let test : (c == q) ≡ false = apart_test c q (λ e. false≢same q c (sym e) apart) in
      let put : Some now ≡ Some was = sym there ∙ at_changed (tells (text reply)) c between q
      ∙ ap (λ b. cond b (option_map (tells (text reply)) (client_at between q)) (client_at between q)) apart
      ∙ changes q ∙ ap (λ b. cond b (option_map g (client_at before q)) (client_at before q)) apart ∙ here in
      let now_is : now ≡ was = same_Some now was put in
      rw (test, now_is) (record { from = refl; told = sym (append-nil was.told) })
    where
      false≢same : (x y : ℕ) → x ≡ y → is_same x y ≡ false → ⊥
      false≢same x y e h = false≢true (sym h ∙ subst (λ z. is_same x z ≡ true) e ((eq_by_cmp_equiv nat_cmp_total).refl x))

      apart_test : (x y : ℕ) → (x ≡ y → ⊥) → (x == y) ≡ false
      apart_test x y differ = grind (arith, nat_tests, differ)

  pub told_reply : (q : ℕ) (was now : Client) → client_at before q ≡ Some was → client_at (told reply c between) q ≡ Some now
      → IsTold was now (bytes_to q (record { client = c; reply = reply } ∷ []))
  told_reply q was now here there = told_of_test q was now here there _ refl

-- ---- the events

pub nothing_leaves : LeavesReplies (λ client. client)
nothing_leaves = record { from = λ client. refl; told = λ client. refl }

pub closing_leaves : LeavesReplies closes
closing_leaves = record { from = λ client. refl; told = λ client. refl }

same_both : (b : Bool) (o : Option Client) → o ≡ cond b (option_map (λ client. client) o) o
same_both true None = refl
same_both true (Some client) = refl
same_both false o = refl

pub at_same : (c : ℕ) (roll : Roll) → BecomesAt (λ client. client) c roll roll
at_same c roll q = same_both (is_same q c) (client_at roll q)

new_or_same : (roll : Roll) (q c : ℕ) (was now : Client) → (c ≡ q → ⊥) → client_at roll q ≡ Some was → (b : Bool) → is_same q c ≡ b
    → cond b (Some new_client) (client_at roll q) ≡ Some now → IsTold was now []
new_or_same roll q c was now differ here true same put = absurd (differ (sym (tells_apart exact_unsigned q c same)))
new_or_same roll q c was now differ here false apart put = told_nothing was now here put

pub told_new : (roll : Roll) (c q : ℕ) (was now : Client) → roll.last < c → Joined roll → client_at roll q ≡ Some was → client_at (with_new c roll) q ≡ Some now → IsTold was now []
told_new roll c q was now new joined here there =
    new_or_same roll q c was now
    (λ same. none-some was (sym (joined c new) ∙ ap (client_at roll) same ∙ here))
    here _ refl (sym (get-insert nat_cmp_total roll.clients c new_client q) ∙ there)

gone_or_same : (roll : Roll) (q c : ℕ) (was now : Client) → client_at roll q ≡ Some was → (b : Bool) → cond b None (client_at roll q) ≡ Some now → IsTold was now []
gone_or_same roll q c was now here true put = absurd (none-some now put)
gone_or_same roll q c was now here false put = told_nothing was now here put

pub told_gone : (roll : Roll) (c q : ℕ) (was now : Client) → client_at roll q ≡ Some was → client_at (without_client c roll) q ≡ Some now → IsTold was now []
told_gone roll c q was now here there =
    gone_or_same roll q c was now here (is_same q c) (sym (get-remove nat_cmp_total roll.clients c q) ∙ there)
