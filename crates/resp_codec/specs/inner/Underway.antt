-- The request that is being read.
use Rattle.std.specs.Prelude.{◌≡◌, ℕ, ◌<◌, ◌≤◌, List, [], ◌++◌, length}
use Rattle.std.specs.List.{flat_map, AllByRecursion, AllByRecursion-prop}
use Rattle.std.specs.Coded.{Coded-set, coded_list, coded_ℕ, ×_prop, le_prop}
use Rattle.resp_codec.specs.Marks.{star, dollar, header}
use Rattle.resp_codec.specs.Spelling.{bulk, IsWord}
use Rattle.resp_codec.specs.declared.reading.Stage.{Stage}
use Rattle.resp_codec.specs.declared.reading.Stage.TheVariants as stage

-- a request of this many words may begin with these, and has more
pub record HasMore (count : ℕ) (words : List (List ℕ)) : Type 0 where
  pub few : count ≤ 1048576
  pub each : AllByRecursion IsWord words
  pub more : length words < count

-- what is due is so: between requests no word was read, and of the next word something came only
-- behind its header
abbrev pub IsDue : Stage → ℕ → List (List ℕ) → List ℕ → Type 0
IsDue stage.Request count words word = (words ≡ []) × (word ≡ [])
IsDue stage.Length count words word = HasMore count words × (word ≡ [])
IsDue (stage.Word len) count words word = HasMore count words × (len ≤ 536870912)
    × (length word ≤ len)

-- what was read of the request, up to the bytes of a word
abbrev pub begun : Stage → ℕ → List (List ℕ) → List ℕ
begun stage.Request count words = []
begun stage.Length count words = header star count ++ flat_map bulk words
begun (stage.Word len) count words = header star count ++ flat_map bulk words ++ header dollar len

HasMore-prop : (count : ℕ) (words : List (List ℕ)) → IsProp (HasMore count words)
HasMore-prop count words = hlevel (AllByRecursion-prop, le_prop)

pub IsDue-prop : (s : Stage) (count : ℕ) (words : List (List ℕ)) (word : List ℕ)
    → IsProp (IsDue s count words word)
IsDue-prop stage.Request count words word =
    ×_prop (Coded-set (coded_list (coded_list coded_ℕ)) words [])
    (Coded-set (coded_list coded_ℕ) word [])
IsDue-prop stage.Length count words word =
    ×_prop (HasMore-prop count words) (Coded-set (coded_list coded_ℕ) word [])
IsDue-prop (stage.Word len) count words word = hlevel (HasMore-prop, le_prop)
