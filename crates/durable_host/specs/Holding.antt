-- A core that nothing happened to.
use Rattle.core_types.specs.Keys.{Keys}
use Rattle.client_book.specs.Register.{nobody}
use Rattle.host_core.specs.Core.{Held}

-- a core with these keys, at moment 0, that no client joined
abbrev pub holding : Keys → Held
holding keys = record { keys = keys; moment = 0; register = nobody }
