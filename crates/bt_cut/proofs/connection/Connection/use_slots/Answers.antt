use Rattle.std.proofs.Common.{◌+◌, refl, arith}
use Rattle.std.proofs.lemmas.List.Sums.{sum_by_more}
use Rattle.bt_cut.specs.declared.connection.Span.{Span}
use Rattle.bt_cut.proofs.connection.Connection.use_slots.Goals as goal

-- the whole span is taken
pub returns-then-self-span-clause-given : goal.returns-then-self-span-clause-given
returns-then-self-span-clause-given c =
    let none : Span = record { start = 0; length = 0 } in
    record {
      spans = refl;
      taken = omega (arith, sum_by_more (λ (span : Span). span.length) c.args.self.now.spans.items c.args.self.now.next none c.requires.inside, c.requires.span, c.if-self-span.true);
      ready = record {
        within = omega (arith, c.requires.inside);
        fits = λ other inside. (c.requires.ready.spans (c.args.self.now.next + 1) other inside).0;
        none = λ _. refl;
        spans = c.requires.ready.spans;
      };
    }
