-- what is made stands at first, and after each attempt
use Rattle.std.proofs.Common.{◌≡◌, ◌*◌, ◌-◌, ℕ, List, [], length, replicate, sym, ap, ◌∙◌, subst, arith}
use Rattle.bt_demand.specs.declared.demand.Link.{Link}
use Rattle.bt_demand.specs.Traffic.{matrix_of, AreOfNetwork, HasSumsTo}
use Rattle.bt_demand.proofs.Matrices.{matrix_of-none}
use Rattle.bt_cut.specs.Made.{attempt_at, attempts, Tries, TriesAll}
use Rattle.bt_cut.proofs.Gained.{none_fits}
use Rattle.bt_cut.proofs.Going.{one_less}
use Rattle.bt_cut.proofs.made.make_demand.Goals as goal

pub loop-init : goal.loop-init
loop-init c =
    let net = c.args.net.now in
    let none : c.empty.result ≡ [] = c.empty.ensures.empty in
    let count = 64 * length net.beams in
    let terminals = length net.terminals in
    let Of : List Link → Type 0 = λ links. AreOfNetwork net links in
    let Fit : List Link → Type 0 = λ links. HasSumsTo net.slots (matrix_of net links) in
    let zeros : matrix_of net c.empty.result ≡ replicate (length net.beams) (replicate (length net.beams) 0) = ap (matrix_of net) none ∙ matrix_of-none net in
    let size = λ (n : ℕ). replicate n (replicate n 0) in
    record {
      stands = record {
        terminals = subst Of (sym none) (λ k d within. absurd (omega (arith, within)));
        fits = subst Fit (sym none) (none_fits net);
        matrix = c.in_ok-new.ensures.zeros ∙ ap size c.beam_count-beams.ensures.count ∙ sym zeros;
      };
      so = λ after tries.
          let whole : count - 0 ≡ count = omega arith in
          let With : ℕ → Type 0 = λ n. TriesAll net c.empty.result (attempts terminals n c.args.number) after in
          let From : List Link → Type 0 = λ links. TriesAll net links (attempts terminals count c.args.number) after in
          subst From none (subst With whole tries);
    }

pub loop-preserved : goal.loop-preserved
loop-preserved c =
    let net = c.args.net.now in
    let count = 64 * length net.beams in
    let terminals = length net.terminals in
    let state = c.loop.generator.state in
    let old = c.loop.made.demand in
    let new = c.try_link.new.made.demand in
    let link = c.next_attempt-link.result in
    let is : link ≡ attempt_at terminals state = c.next_attempt-link.ensures.attempt ∙ ap (λ (n : ℕ). attempt_at n state) c.terminal_count-terminals.ensures.count in
    let Tried : Link → Type 0 = λ l. Tries net old l new in
    record {
      stands = c.in_ok-try_link.ensures.stands;
      so = one_less net terminals count c.args.number c.loop.counter state c.next_attempt-link.new.generator.state [] old new (omega (arith, c.loop-test.true, c.beam_count-beams.ensures.count))
          c.next_attempt-link.ensures.state (subst Tried is c.in_ok-try_link.ensures.tried) c.loop.invariant.so;
    }
