-- Index calls of texts and numbers, and how large they are.
use Rattle.std.specs.Prelude.{ℕ, ◌+◌, ⊤, length, string_bytes}
use Rattle.ii_definitions.specs.declared.index_call.IndexCall.{IndexCall}
use Rattle.ii_definitions.specs.declared.index_call.IndexCall.TheVariants.{Text, Tokens, U64, I64, Bool as Truth, Date, Bytes, Ip, Json}

-- A call of a text, a number, a boolean, a date or an address.
abbrev pub IsTextOrNumber : IndexCall → Type 0
IsTextOrNumber (Text doc field t) = ⊤
IsTextOrNumber (Tokens doc field tokens) = ⊥
IsTextOrNumber (U64 doc field n) = ⊤
IsTextOrNumber (I64 doc field n) = ⊤
IsTextOrNumber (Truth doc field b) = ⊤
IsTextOrNumber (Date doc field date) = ⊤
IsTextOrNumber (Bytes doc field bytes) = ⊥
IsTextOrNumber (Ip doc field address) = ⊤
IsTextOrNumber (Json doc field v) = ⊥

-- the bytes of a text and one more, or 1
abbrev pub call_size : IndexCall → ℕ
call_size (Text doc field t) = length (string_bytes t) + 1
call_size (Tokens doc field tokens) = 1
call_size (U64 doc field n) = 1
call_size (I64 doc field n) = 1
call_size (Truth doc field b) = 1
call_size (Date doc field date) = 1
call_size (Bytes doc field bytes) = 1
call_size (Ip doc field address) = 1
call_size (Json doc field v) = 1
