use Rattle.std.proofs.Common.{◌≡◌, ◌<◌, ◌∙◌, List, length, take, arith}
use Rattle.symbols.specs.declared.symbol.Symbol.{Symbol}
use Rattle.symbol_steps.specs.declared.ranking.SymbolSteps.{SymbolSteps}
use Rattle.symbol_steps.specs.Rows.{IsRowOf, with_row}
use Rattle.symbol_steps.proofs.Apart.{apart_inserted, among_inserted, among_more}
use Rattle.symbol_steps.proofs.Ranked.{all_inserted, descending_inserted, few_inserted}
use Rattle.symbol_steps.proofs.ranking.Ranking.of.Goals as goal
use Rattle.symbol_steps.proofs.ranking.Ranking.of.Goals.{in-Some, in_default}

pub symbols-preserved : goal.symbols-preserved
symbols-preserved c =
    let list : List Symbol = c.args.symbols.now.list.items in
    let before : List SymbolSteps = c.symbols.ranking in
    let after : List SymbolSteps = c.match-row_of.ranking in
    let below : c.symbols.place < length list = omega arith in
    elim c.match-row_of.branch [
      | in-Some w ↦
          let is : after ≡ take 20 (with_row w.in-Some.row before) =
          w.ranking-is ∙ w.insert.ensures in
          record {
            rows = all_inserted (IsRowOf c.args.survey.now list) w.in-Some.row before after is
                w.in-Some.ensures.right c.symbols.invariant.rows;
            apart = apart_inserted (take c.symbols.place list) w.in-Some.row before after is
                w.in-Some.ensures.first c.symbols.invariant.among c.symbols.invariant.apart;
            among = among_inserted list c.symbols.place w.in-Some.row before after is below
                w.in-Some.ensures.symbol c.symbols.invariant.among;
            order = descending_inserted w.in-Some.row before after is c.symbols.invariant.order;
            few = few_inserted w.in-Some.row before after is;
          }
      | in_default w ↦ rw w.ranking-is (record {
        rows = c.symbols.invariant.rows;
        apart = c.symbols.invariant.apart;
        among = among_more list c.symbols.place before c.symbols.invariant.among;
        order = c.symbols.invariant.order;
        few = c.symbols.invariant.few;
      })
    ]
