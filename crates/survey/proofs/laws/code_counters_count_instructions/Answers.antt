use Rattle.survey.proofs.CodeCounting.{flash_counted, halfwords_differ, ram_counted}
use Rattle.survey.proofs.laws.code_counters_count_instructions.Goals as goal

pub returns-clause-flash : goal.returns-clause-flash
returns-clause-flash c = flash_counted

pub returns-clause-ram : goal.returns-clause-ram
returns-clause-ram c = ram_counted

pub returns-clause-apart : goal.returns-clause-apart
returns-clause-apart c = halfwords_differ
