use Rattle.std.proofs.Common.{◌≡◌, ◌+◌, ◌*◌, ◌++◌, take, drop}
use Rattle.ob_seal.specs.Stream.{xor_from, key_byte}
use Rattle.ob_seal.proofs.stream.xor_words.Given as goal

abbrev pub invariant-words : goal.invariant-words
invariant-words l =
    record {
      rng : l.rng ≡ record { key = l.initial.rng.key; stream = l.initial.rng.stream; word_pos = l.initial.rng.word_pos + l.i };
      bytes : l.bytes ≡ xor_from (key_byte l.initial.rng.key l.initial.rng.stream) (4 * l.initial.rng.word_pos) (take (4 * l.i) l.initial.bytes) ++ drop (4 * l.i) l.initial.bytes;
    }
