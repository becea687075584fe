-- What contracts see of room for a writer of certificates.
use Rattle.std.specs.Prelude.{ℕ}
use Rattle.cert_core.specs.declared.room.CertRoom.{CertRoom}

-- for bridges of how many weights the room of a writer is
abbrev pub room_weights : CertRoom → ℕ
room_weights room = room.weights
