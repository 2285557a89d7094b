-- What happens to the clients of a host: one line a change.
use Rattle.std.specs.Prelude.{ℕ, Bool, false, not, Option, Some, None}
use Rattle.std.specs.FinMap as finite
use Rattle.core_types.specs.declared.reply.Reply.{Reply}
use Rattle.resp_codec.specs.ReplyText.{text}
use Rattle.client_book.specs.Client.{new_client, tells, closes}
use Rattle.client_book.specs.Register.{Roll}
use Rattle.client_book.specs.declared.client.Client.{Client}

-- a client's record, where it is there
abbrev pub client_at : Roll → ℕ → Option Client
client_at roll number = finite.get roll.clients number

-- whether its requests are served: it is there, and not closing
abbrev pub is_served : Option Client → Bool
is_served None = false
is_served (Some client) = not client.closing

-- one joins, with nothing told
abbrev pub with_new : ℕ → Roll → Roll
with_new number roll =
    record { clients = finite.insert roll.clients number new_client; last = number }

-- one goes
abbrev pub without_client : ℕ → Roll → Roll
without_client number roll = record roll { clients = finite.remove roll.clients number }

-- the record of one, where this is it, becomes f of it
abbrev pub with_record : (Client → Client) → ℕ → Roll → Option Client → Roll
with_record f number roll None = roll
with_record f number roll (Some client) =
    record roll { clients = finite.insert roll.clients number (f client) }

abbrev pub changed : (Client → Client) → ℕ → Roll → Roll
changed f number roll = with_record f number roll (client_at roll number)

-- one is told a reply
abbrev pub told : Reply → ℕ → Roll → Roll
told reply number roll = changed (tells (text reply)) number roll

-- the requests of one are served no longer
abbrev pub closed : ℕ → Roll → Roll
closed number roll = changed closes number roll
