use Rattle.std.proofs.Common.{◌≡◌, All, IsUtf8, map, string_bytes, take}
use Rattle.command_words.proofs.texts.as_texts.Given as goal

abbrev pub invariant-loop-word : goal.invariant-loop-word
invariant-loop-word l = record {
  utf8 : All IsUtf8 (take l.word-index l.word-items);
  same : map string_bytes l.texts.items ≡ take l.word-index l.word-items;
}
