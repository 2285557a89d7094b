-- What was handed out.
use Rattle.std.specs.Prelude.{◌≡◌, ℕ, List, Option, take}
use Rattle.std.specs.Io.KnownBytes.{Appends}
use Rattle.disk_model.specs.Told.{Told}
use Rattle.durable_host.specs.Host.{Host}
use Rattle.server_shell.specs.Making.{Hands, open_to, taken_by}

-- all that may be taken was, and the sink got it
pub record HandsAll {D : Type 0} (told : D → Told) (before after : Host D)
    (got got' : Option (List ℕ)) : Type 0 where
  pub bytes : List ℕ
  pub hands : Hands told bytes before after
  pub all : taken_by after ≡ open_to before
  pub sent : Appends got got' bytes

-- some was, and the sink got a front of it
pub record HandsPart {D : Type 0} (told : D → Told) (before after : Host D)
    (got got' : Option (List ℕ)) : Type 0 where
  pub bytes : List ℕ
  pub hands : Hands told bytes before after
  pub count : ℕ
  pub sent : Appends got got' (take count bytes)
