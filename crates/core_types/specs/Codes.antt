-- What the keys and what a host shows are stored as in proofs: data that can be told apart. Models
-- cite it, and nothing else.
use Rattle.std.specs.Prelude.{◌≡◌, ◌⊎◌, ℕ, Bool, List, Option, refl}
use Rattle.std.proofs.Common.{inl, inr}
use Rattle.std.specs.FinMap as finite
use Rattle.std.specs.Ordering.{nat_cmp}
use Rattle.std.specs.Coded.{Coded, code_by, coded×, coded⊎, coded_bool, coded_ℕ, coded_list, coded_option}
use Rattle.core_types.specs.declared.client_state.ClientState.{ClientState}
use Rattle.core_types.specs.declared.effect.Effect.{Effect}
use Rattle.core_types.specs.declared.field.Field.{Field}
use Rattle.core_types.specs.declared.order.Order.{Order}
use Rattle.core_types.specs.declared.stop.Cause.{Cause}
use Rattle.core_types.specs.declared.tagged.Tagged.{Tagged}
use Rattle.core_types.specs.declared.value.Value.{Value}
use Rattle.core_types.specs.declared.value.Value.TheVariants as value
use Rattle.core_types.specs.contracts.client_state.ClientState as standing
use Rattle.core_types.specs.contracts.effect.Effect as effect
use Rattle.core_types.specs.contracts.field.Field as field
use Rattle.core_types.specs.contracts.order.Order as order
use Rattle.core_types.specs.contracts.stop.Cause as cause
use Rattle.core_types.specs.contracts.tagged.Tagged as tagged
use Rattle.core_types.specs.Keys.{Entry, Keys, Native}
use Rattle.core_types.specs.Shown.{Backlog, NumberedEffects, Shown, ShownClient}

abbrev pub bytes_code : Coded (List ℕ)
bytes_code = coded_list coded_ℕ

-- a value by its kind: a string, a list, a hash or one of a module
abbrev pub Kinds : Type 0 → Type 0
Kinds N = List ℕ ⊎ (List (List ℕ) ⊎ (List Field ⊎ N))

module _ {N : Type 0} where
  abbrev pub by_kind : Value N → Kinds N
  by_kind (value.Str text) = inl text
  by_kind (value.List items) = inr (inl items)
  by_kind (value.Hash fields) = inr (inr (inl fields))
  by_kind (value.Native native) = inr (inr (inr native))

  abbrev pub of_kind : Kinds N → Value N
  of_kind (inl text) = value.Str text
  of_kind (inr (inl items)) = value.List items
  of_kind (inr (inr (inl fields))) = value.Hash fields
  of_kind (inr (inr (inr native))) = value.Native native

  abbrev pub kind_and_back : (v : Value N) → of_kind (by_kind v) ≡ v
  kind_and_back (value.Str text) = refl
  kind_and_back (value.List items) = refl
  kind_and_back (value.Hash fields) = refl
  kind_and_back (value.Native native) = refl

  abbrev pub value_code : Coded N → Coded (Value N)
  value_code native =
      code_by (Kinds N)
      (coded⊎ bytes_code
      (coded⊎ (coded_list bytes_code) (coded⊎ (coded_list field.the_row.coded) native)))
      by_kind of_kind kind_and_back

  abbrev pub entry_code : Coded N → Coded (Entry N)
  entry_code native =
      code_by (Value N × Option ℕ) (coded× (value_code native) (coded_option coded_ℕ))
      (λ e. (e.value, e.deadline)) (λ p. record { value = p.0; deadline = p.1 }) (λ _. refl)

abbrev pub native_code : Coded Native
native_code =
    code_by (List ℕ × List Tagged) (coded× bytes_code (coded_list tagged.the_row.coded))
    (λ n. (n.name, n.items)) (λ p. record { name = p.0; items = p.1 }) (λ _. refl)

abbrev pub keys_code : Coded Keys
keys_code = finite.code bytes_code (entry_code native_code)

-- ---- what a host shows
abbrev pub numbered_code : Coded NumberedEffects
numbered_code =
    code_by (ℕ × (ℕ × List Effect))
    (coded× coded_ℕ (coded× coded_ℕ (coded_list effect.the_row.coded)))
    (λ e. (e.from, (e.to, e.effects)))
    (λ p. record { from = p.0; to = p.1.0; effects = p.1.1 }) (λ _. refl)

abbrev pub backlog_code : Coded Backlog
backlog_code =
    code_by (ℕ × (ℕ × (ℕ × List NumberedEffects)))
    (coded× coded_ℕ (coded× coded_ℕ (coded× coded_ℕ (coded_list numbered_code))))
    (λ b. (b.run, (b.first, (b.end, b.units))))
    (λ p. record { run = p.0; first = p.1.0; end = p.1.1.0; units = p.1.1.1 }) (λ _. refl)

abbrev pub shown_client_code : Coded ShownClient
shown_client_code =
    code_by (ClientState × (ℕ × (ℕ × List ℕ)))
    (coded× standing.the_row.coded (coded× coded_ℕ (coded× coded_ℕ bytes_code)))
    (λ c. (c.standing, (c.taken, (c.may, c.told))))
    (λ p. record { standing = p.0; taken = p.1.0; may = p.1.1.0; told = p.1.1.1 }) (λ _. refl)

abbrev Clients : Type 0
Clients = finite.FinMap nat_cmp ShownClient

-- the numbers and lists first, then the two maps
abbrev Parts : Type 0
Parts =
    (ℕ × (ℕ × (ℕ × (ℕ × (Option ℕ × (Option Cause × Bool))))))
    × ((List Order × (ℕ × (Option Backlog × ℕ))) × (Keys × Clients))

abbrev parts_code : Coded Parts
parts_code =
    coded×
    (coded× coded_ℕ (coded× coded_ℕ (coded× coded_ℕ (coded× coded_ℕ
    (coded× (coded_option coded_ℕ) (coded× (coded_option cause.the_row.coded) coded_bool))))))
    (coded×
    (coded× (coded_list order.the_row.coded)
    (coded× coded_ℕ (coded× (coded_option backlog_code) coded_ℕ)))
    (coded× keys_code (finite.code coded_ℕ shown_client_code)))

abbrev pub shown_code : Coded Shown
shown_code =
    code_by Parts parts_code
    (λ s. (
      (s.first, (s.end, (s.log, (s.swapped, (s.rewriting, (s.stopped, s.ending)))))),
      ((s.orders, (s.taken_orders, (s.backlog, s.queued))), (s.keys, s.clients)),
    ))
    (λ p. record {
      first = p.0.0;
      end = p.0.1.0;
      log = p.0.1.1.0;
      swapped = p.0.1.1.1.0;
      rewriting = p.0.1.1.1.1.0;
      stopped = p.0.1.1.1.1.1.0;
      ending = p.0.1.1.1.1.1.1;
      orders = p.1.0.0;
      taken_orders = p.1.0.1.0;
      backlog = p.1.0.1.1.0;
      queued = p.1.0.1.1.1;
      keys = p.1.1.0;
      clients = p.1.1.1;
    })
    (λ _. refl)
