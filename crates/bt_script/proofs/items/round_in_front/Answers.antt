-- one desk further, and all of them
use Rattle.std.proofs.Common.{◌≡◌, ◌+◌, ◌-◌, [], sym, ap, ◌∙◌, subst, arith, rules}
use Rattle.std.specs.Prelude.{flat_map}
use Rattle.std.specs.List.{slice_index_or}
use Rattle.std.proofs.lemmas.List.{get_or_read}
use Rattle.std.proofs.lemmas.Grind.{common_steps}
use Rattle.bt_script.specs.declared.script.Round.{Round}
use Rattle.bt_script.specs.Named.{IsRoundFor}
use Rattle.bt_script.specs.ScriptText.{round_lines, round_of, own_lines, desks_of}
use Rattle.bt_script.proofs.Grouping.{next_desk, all_desks}
use Rattle.bt_script.proofs.Naming.{front_named}
use Rattle.bt_script.proofs.items.round_in_front.Goals as goal

pub loop-desk-preserved : goal.loop-desk-preserved
loop-desk-preserved c =
    let desk = c.loop-desk.desk in
    let lines = round_lines c.args.said.now in
    let table = c.loop-desk.table.items in
    let own = c.loop-desk.invariant.lines (desk - 1) (omega arith) (omega arith) in
    let same : desk - 1 + 1 ≡ desk = omega arith in
    let got = get_or_read table _ _ (omega arith) c.index_mut.ensures.value [] in
    let read : c.replace-own.result ≡ flat_map (own_lines desk) lines = c.replace-own.ensures.value ∙ got ∙ ap (λ p. slice_index_or table (p - 1) []) c.from-place.ensures ∙ own ∙ ap (λ n. flat_map (own_lines n) lines) same in
    record {
      desks = rw (c.in_ok-add_desk.ensures, read) (next_desk c.loop-desk.desks.items desk lines (desks_of 1 16 lines) c.loop-desk-test.true c.loop-desk.invariant.desks);
      count = search rules;
      lines = search rules;
    }

pub of-requires : goal.of-requires
of-requires c = record { desks = all_desks c.loop-desk.desks.items c.loop-desk.desk (round_lines c.args.said.now) c.loop-desk-test.false c.loop-desk.invariant.desks }

pub returns-clause-terminals : goal.returns-clause-terminals
returns-clause-terminals c =
    let round : Round = record { desks = c.of.result; plans = c.in_ok-lines.lines.plans; air = c.of-2.result } in
    let is : round ≡ round_of (round_lines c.args.said.now) = grind (arith, common_steps) in
    λ net named. subst (IsRoundFor net) (sym is) (front_named net c.args.said.now named)
