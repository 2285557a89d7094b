-- The commands that answer what a hash holds, and change nothing.
use Rattle.std.specs.Prelude.{ℕ, pos, Bool, if◌then◌else◌, List, [], ◌∷◌, length, map, drop, flat_map, is_some, unwrap_or}
use Rattle.core_types.specs.Answers.{bulk_or_null, several}
use Rattle.core_types.specs.Done.{Done, answers}
use Rattle.sequences.specs.Words.{word}
use Rattle.core_types.specs.Fields.{field_value}
use Rattle.core_types.specs.Several.{Several}
use Rattle.core_types.specs.declared.field.Field.{Field}
use Rattle.core_types.specs.declared.reply.Reply.{Reply}
use Rattle.core_types.specs.declared.reply.Reply.TheVariants as reply
use Rattle.hash_cmds.specs.declared.reading.Shown.{Shown}
use Rattle.hash_cmds.specs.declared.reading.Shown.TheVariants as shown

abbrev pub one_if : Bool → ℕ
one_if b = if b then 1 else 0

abbrev pub get : List Field → List (List ℕ) → Done (List Field)
get held words = answers (bulk_or_null (field_value held (word 2 words)))

-- the value of each name
abbrev pub values_of : List Field → List (List ℕ) → Several
values_of held names = several (map (λ name. bulk_or_null (field_value held name)) names)

abbrev pub get_each : List Field → List (List ℕ) → Done (List Field)
get_each held words = answers (reply.Array (values_of held (drop 2 words)))

abbrev pub count_fields : List Field → Done (List Field)
count_fields held = answers (reply.Int (pos (length held)))

abbrev pub exists : List Field → List (List ℕ) → Done (List Field)
exists held words = answers (reply.Int (pos (one_if (is_some (field_value held (word 2 words))))))

abbrev pub value_length : List Field → List (List ℕ) → Done (List Field)
value_length held words =
    answers (reply.Int (pos (length (unwrap_or (field_value held (word 2 words)) []))))

-- what is shown of a field
abbrev pub field_shown : Shown → Field → List Reply
field_shown shown.Names field = reply.Bulk field.name ∷ []
field_shown shown.Values field = reply.Bulk field.value ∷ []
field_shown shown.Both field = reply.Bulk field.name ∷ reply.Bulk field.value ∷ []

-- each field, in the order in which the names came
abbrev pub shown_of : Shown → List Field → Several
shown_of what held = several (flat_map (field_shown what) held)

abbrev pub show_fields : Shown → List Field → Done (List Field)
show_fields what held = answers (reply.Array (shown_of what held))
