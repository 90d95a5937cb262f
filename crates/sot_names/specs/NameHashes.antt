-- The keys of tables of names.
use Rattle.std.specs.Prelude.{ℕ, ◌+◌, ◌*◌, ◌%◌, ◌^◌, ◌==◌, cond, List, [], ◌∷◌}
use Rattle.std.specs.Hash.{u64}
use Rattle.std.specs.List.{fold}
use Rattle.std.specs.Hash.DefaultHasher as sip
use Rattle.std.specs.declared.hash.DefaultHasher.{DefaultHasher}
use Rattle.sot_names.specs.declared.hasher.NameHash.{NameHash}
use Rattle.sot_syntax_tree.specs.declared.tree.Ident.{Ident}

-- a hash of names, with one more and the byte that ends it
abbrev pub with_hash_of : DefaultHasher → Ident → DefaultHasher
with_hash_of s i = sip.write (sip.write s i.name) (0xff ∷ [])

-- what a table hashes each of its names behind, where this is the hash of all of them
abbrev pub keyed_by : DefaultHasher → DefaultHasher
keyed_by s = fold sip.write sip.initial (u64 (sip.finish s))

-- the hash of a name before its first byte
abbrev pub hash_from : DefaultHasher → NameHash
hash_from s = record { words = s; last = 0; length = 0 }

-- with a whole word
abbrev pub with_word : DefaultHasher → ℕ → DefaultHasher
with_word s w = fold sip.write s (u64 w)

-- with one byte more: eight of them are a word
abbrev pub with_byte : NameHash → ℕ → NameHash
with_byte s b =
    let last = ((s.last * 256) % 2 ^ 64 + b) % 2 ^ 64 in
    let length = (s.length + 1) % 2 ^ 64 in
    cond (length % 8 == 0) (record { words = with_word s.words last; last = 0; length = length })
    (record { words = s.words; last = last; length = length })

-- a byte is told by itself, and what is told otherwise is left out
abbrev pub with_bytes : NameHash → List ℕ → NameHash
with_bytes s (b ∷ []) = with_byte s b
with_bytes s _ = s

-- the last word has the length of the name above its bytes
abbrev pub finished : NameHash → ℕ
finished s = sip.finish (with_word s.words (((s.length * 2 ^ 56) % 2 ^ 64 + s.last) % 2 ^ 64))
