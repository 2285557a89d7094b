-- That wordcount obeys the laws of a module, with those on what it writes and replies.
use Rattle.std.proofs.Common.{◌≡◌, ℕ, ◌+◌, ◌^◌, pos, Bool, true, false, List, [], ◌∷◌, map, Option, Some, None, refl, sym, ap, ◌∙◌, true≢false, arith, if◌then◌else◌}
use Rattle.std.specs.Prelude.{nat_lt}
use Rattle.std.specs.Char.{to_ascii_uppercase}
use Rattle.std.specs.Cmp.Lexicographic.{bytes_decides}
use Rattle.std.specs.Option.{option_map, unwrap_or}
use Rattle.std.specs.Result.{result_unwrap_or}
use Rattle.std.specs.Str.{bytes_eq}
use Rattle.std.specs.Fmt.{decimal}
use Rattle.std.proofs.lemmas.Option.{none-some}
use Rattle.byte_text.specs.Number.{i64_of}
use Rattle.core_types.specs.CommandRow.{CommandRow, writing}
use Rattle.core_types.specs.declared.refusal.Refusal.TheVariants as refusal
use Rattle.core_types.specs.declared.reply.Reply.{Reply}
use Rattle.core_types.specs.declared.reply.Reply.TheVariants as reply
use Rattle.sequences.specs.Words.{word}
use Rattle.type_ids.proofs.Names.{named-found}
use Rattle.module_laws.specs.Laws.{IsLawful, IsReply, IsWriting, IsWritten}
use Rattle.module_laws.specs.Named.{row_named}
use Rattle.module_laws.specs.Told.{Seen}
use Rattle.module_laws.specs.Words.{Bytes, Words, Saved}
use Rattle.mod_samples.specs.Changes.{refuses}
use Rattle.mod_samples.specs.CountParts.{counts_of, saved_counts}
use Rattle.mod_samples.specs.Counts.{Counted, count_at, counted, with_count}
use Rattle.mod_samples.specs.WordCount.{add_name, adds, count_after, count_name, count_rows, count_says, counts_at, counts_or_none, drop_name, drops, drops_found, dropped, edits, edits_where, gets, is_drop, positive, puts, set_name, set_words, sets, to_set, value_of, wordcount}
use Rattle.mod_samples.specs.Words.{own}
use Rattle.mod_samples.specs.inner.Changing.{reply_either, unchanged}
use Rattle.mod_samples.specs.inner.CountLaws.{after_case, count_commands, decimal_read, edits_short, loads_short, old_short, says_done, set_limits}
use Rattle.mod_samples.specs.inner.CountsBack.{counts_read_back}

-- what each command answers is a reply
add_reply : (b : Bool) (seen : Seen) (words : Words) (n : ℕ) (cs : List Counted) (said : Reply)
    → IsReply (if b then sets seen words n cs said else refuses seen refusal.Overflow).answer
add_reply true seen words n cs said = tt
add_reply false seen words n cs said = tt

adds_reply : (seen : Seen) (key wd : Bytes) (cs : Option (List Counted))
    → IsReply (adds seen key wd cs).answer
adds_reply seen key wd None = tt
adds_reply seen key wd (Some cs) =
    let n : ℕ = unwrap_or (count_at wd cs) 0 + 1 in
    add_reply (nat_lt n (2 ^ 63)) seen (set_words key wd n) n cs (reply.Int (pos n))

puts_reply : (seen : Seen) (words : Words) (n : Option ℕ) (cs : Option (List Counted))
    → IsReply (puts seen words n cs).answer
puts_reply seen words None cs = tt
puts_reply seen words (Some n) None = tt
puts_reply seen words (Some n) (Some cs) = tt

found_reply : (seen : Seen) (words : Words) (left : Option (List Counted))
    → IsReply (drops_found seen words left).answer
found_reply seen words None = tt
found_reply seen words (Some left) = tt

drops_reply : (seen : Seen) (words : Words) (cs : Option (List Counted))
    → IsReply (drops seen words cs).answer
drops_reply seen words None = tt
drops_reply seen words (Some cs) = found_reply seen words (dropped (word 2 words) cs)

gets_reply : (seen : Seen) (wd : Bytes) (cs : Option (List Counted))
    → IsReply (gets seen wd cs).answer
gets_reply seen wd None = tt
gets_reply seen wd (Some cs) = tt

says_reply : (seen : Seen) (words : Words) → IsReply (count_says seen words).answer
says_reply seen words =
    let cs = counts_at seen.keys (word 1 words) in
    reply_either (bytes_eq (word 0 words) add_name) _ _
    (adds_reply seen (word 1 words) (word 2 words) cs)
    (reply_either (bytes_eq (word 0 words) set_name) _ _
    (puts_reply seen words (positive (i64_of (word 3 words))) cs)
    (reply_either (bytes_eq (word 0 words) drop_name) _ _ (drops_reply seen words cs)
    (gets_reply seen (word 2 words) cs)))

-- `after` makes something of a SET and of a DROP alone
set_else : (b : Bool) (name key wd text : Bytes) (cs : List Counted) (left : Option Saved)
    → bytes_eq (map to_ascii_uppercase name) set_name ≡ b
    → option_map value_of (edits_where (if b then positive (i64_of text) else None) false wd cs)
    ≡ Some left → IsWriting count_rows (name ∷ key ∷ wd ∷ text ∷ [])
set_else true name key wd text cs left is makes =
    let same : map to_ascii_uppercase name ≡ set_name = (bytes_decides _ set_name).0 is in
    record {
      row = writing set_name (pos 4);
      named = ap (λ upper. row_named upper count_rows) same;
      writes = refl;
    }
set_else false name key wd text cs left is makes = absurd (none-some left makes)

drop_else : (b : Bool) (name key wd : Bytes) (cs : List Counted) (left : Option Saved)
    → bytes_eq (map to_ascii_uppercase name) drop_name ≡ b
    → option_map value_of (edits_where None b wd cs) ≡ Some left
    → IsWriting count_rows (name ∷ key ∷ wd ∷ [])
drop_else true name key wd cs left is makes =
    let same : map to_ascii_uppercase name ≡ drop_name = (bytes_decides _ drop_name).0 is in
    record {
      row = writing drop_name (pos 3);
      named = ap (λ upper. row_named upper count_rows) same;
      writes = refl;
    }
drop_else false name key wd cs left is makes = absurd (none-some left makes)

none_else : (cs : List Counted) (words : Words) (left : Option Saved)
    → option_map value_of (edits cs words) ≡ Some left → IsWriting count_rows words
unfolding word
none_else cs [] left makes = absurd (none-some left makes)
none_else cs (name ∷ []) left makes = absurd (none-some left makes)
none_else cs (name ∷ key ∷ []) left makes = absurd (none-some left makes)
none_else cs (name ∷ key ∷ wd ∷ []) left makes =
    drop_else (bytes_eq (map to_ascii_uppercase name) drop_name) name key wd cs left refl makes
none_else cs (name ∷ key ∷ wd ∷ text ∷ []) left makes =
    set_else (bytes_eq (map to_ascii_uppercase name) set_name) name key wd text cs left refl makes
none_else cs (name ∷ key ∷ wd ∷ text ∷ other ∷ more) left makes = absurd (none-some left makes)

-- a SET of 1 makes words of none
set_written : IsWritten wordcount (writing set_name (pos 4))
unfolding word
set_written = record {
  words = set_words [] [] 1;
  old = None;
  left = Some (saved_counts (counted [] 1 ∷ []));
  named = refl;
  arity = refl;
  limits = set_limits [] [] 1 (omega arith) (omega arith) (omega arith);
  full = tt;
  made = ap (λ n. option_map value_of (edits_where n false [] [])) (decimal_read 1 (omega arith) (omega arith));
}

-- a DROP of the only word makes nothing of it
drop_written : IsWritten wordcount (writing drop_name (pos 3))
unfolding word
drop_written = record {
  words = drop_name ∷ [] ∷ [] ∷ [];
  old = Some (saved_counts (counted [] 1 ∷ []));
  left = None;
  named = refl;
  arity = refl;
  limits = record {
    some = omega arith;
    few = omega arith;
    each = (omega arith, (omega arith, (omega arith, tt)));
  };
  full = refl;
  made = ap (λ r. option_map value_of (dropped [] (result_unwrap_or r [])))
      (counts_read_back (counted [] 1 ∷ []) refl);
}

pub count_lawful : IsLawful wordcount
count_lawful = record {
  named = named-found count_name refl refl
      (λ same. true≢false (sym ((bytes_decides count_name _).1 same)));
  versioned = omega arith;
  commands = count_commands;
  effects = record {
    says = λ allowed private seen words sound call. says_done allowed seen sound words call;
    replies = λ allowed private seen payload sound. unchanged wordcount refl allowed seen sound _;
    times_out = λ allowed private seen job sound. unchanged wordcount refl allowed seen sound _;
    goes = λ allowed private seen job sound. unchanged wordcount refl allowed seen sound _;
    tells = λ allowed private seen op sound short. unchanged wordcount refl allowed seen sound _;
  };
  writes = record { none_else = λ old words left makes. none_else (counts_or_none old) words left makes; each = (tt, (set_written, (tt, (drop_written, tt)))) };
  at_once = λ private seen words call writes. says_reply seen (own words);
  limits = record {
    after = λ old words items full limits makes. after_case items (edits (counts_or_none old) words)
        (λ cs is. edits_short (counts_or_none old) cs words limits (old_short old full) is) makes;
    loads = λ items version value short loads. loads_short items version value short loads;
    chores = λ private note. tt;
  };
}
