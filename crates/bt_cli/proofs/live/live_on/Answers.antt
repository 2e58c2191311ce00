-- the network is loaded, and there is a session on it; or why it could not be is said
use Rattle.std.proofs.Common.{ℕ, None, inl, sym, ap, subst}
use Rattle.bt_outside.specs.Told.{Rose}
use Rattle.bt_centre.specs.Talked.{Talked}
use Rattle.bt_load.specs.Files.{StopsAtLoad}
use Rattle.bt_load.specs.Kinds.{network_file}
use Rattle.bt_cli.specs.Calls.{output_of}
use Rattle.bt_cli.specs.Live.{SaysOneOf, SaysStop}
use Rattle.bt_cli.proofs.Sessions.{said_stop}
use Rattle.bt_cli.proofs.live.live_on.Goals as goal

pub returns-in-Err : goal.returns-in-Err
returns-in-Err g c =
    let talk : Talked = record {
      coming = g.T.Talk.coming c.args.talk.now;
      unheard_before = g.T.Talk.unheard c.args.talk.now;
      unheard_after = g.T.Talk.unheard c.say_stop-status.new.talk;
      output = output_of g.T.Sink.told g.T.Sink.fault_count c.args.talk.now c.say_stop-status.new.talk;
      turns_before = g.T.Talk.turns c.args.talk.now;
      turns_after = g.T.Talk.turns c.say_stop-status.new.talk;
      moments_before = g.C.Clock.coming c.args.clock.now;
      moments_after = g.C.Clock.coming c.args.clock.now;
      store = record { told = g.K.Keeper.told c.unbegun.result.store; faults = g.K.Keeper.fault_count c.unbegun.result.store; crashes = g.K.Keeper.crashes c.unbegun.result.store };
    } in
    let failed = Rose (g.F.Files.fault_count c.args.files.now) (g.F.Files.fault_count c.load_network.new.files) in
    let P : ℕ → Type 0 = λ status. SaysOneOf talk (StopsAtLoad network_file (g.F.Files.told c.args.files.now) failed c.args.net.now) status in
    record {
      ends = inl (
        record {
          histories = c.unbegun.ensures.histories;
          events = c.unbegun.ensures.events;
          store = record { bytes = ap g.K.Keeper.told c.unbegun.ensures.store; faults = ap g.K.Keeper.fault_count c.unbegun.ensures.store };
        },
        subst P (sym c.unbegun.ensures.status) (said_stop talk (StopsAtLoad network_file (g.F.Files.told c.args.files.now) failed c.args.net.now) c.in-Err.stop _ c.in-Err.ensures.stops
            (subst (λ (st : _). SaysStop (record talk { moments_before = None; moments_after = None; store = record { told = g.K.Keeper.told st; faults = g.K.Keeper.fault_count st; crashes = g.K.Keeper.crashes st } }) c.in-Err.stop c.say_stop-status.result) (sym c.unbegun.ensures.store) c.say_stop-status.ensures.said)),
      );
    }
