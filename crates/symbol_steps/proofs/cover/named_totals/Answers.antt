use Rattle.std.proofs.Common.{ℕ, ◌+◌, List, arith}
use Rattle.symbols.specs.declared.symbol.Symbol.{Symbol}
use Rattle.symbol_steps.specs.Symbols.{named_number}
use Rattle.symbol_steps.proofs.Named.{named_known, named_sum}
use Rattle.symbol_steps.proofs.Sums.{sums_step}
use Rattle.symbol_steps.proofs.cover.named_totals.Goals as goal

pub named_at-named-requires-clause-known : goal.named_at-named-requires-clause-known
named_at-named-requires-clause-known c = λ alone.
    named_known c.args.symbols.now.list.items c.args.symbol.now c.args.code.now c.of-range.result c.halfwords.offset
    c.args.end c.of-range.ensures.value c.requires.end c.requires.listed c.requires.within (c.requires.alone alone)
    c.halfwords-test.true

pub halfwords-preserved : goal.halfwords-preserved
halfwords-preserved c =
    let list : List Symbol = c.args.symbols.now.list.items in
    let first : ℕ = c.of-range.result.first in
    sums_step (λ p k. named_number list c.args.symbol.now c.args.code.now p (first + k)) c.halfwords.offset
    c.halfwords.sum c.named_at-named.result c.and-sum.result c.halfwords.invariant
    c.named_at-named.ensures c.and-sum.ensures

pub returns : goal.returns
returns c =
    named_sum c.args.symbols.now.list.items c.args.symbol.now c.args.code.now c.of-range.result c.halfwords.offset
    c.args.end c.halfwords.sum c.of-range.ensures.value c.requires.end c.of-range.ensures.base c.of-range.ensures.few
    (omega arith) c.halfwords.invariant
