-- Words as a contract sees them.
use Rattle.debugger_commands.specs.declared.words.TwoWords.{TwoWords as Two}
use Rattle.debugger_commands.specs.declared.words.ThreeWords.{ThreeWords as Three}
use Rattle.debugger_commands.specs.Words.{TwoWords, ThreeWords}

abbrev pub seen_two : Two → TwoWords
seen_two words = record { first = words.first.now; second = words.second.now }

abbrev pub seen_three : Three → ThreeWords
seen_three words = record { first = words.first.now; others = seen_two words.others }
