-- The parts of a run are printed lines.
use Rattle.std.proofs.Common.{ℕ, ◌+◌, ◌<◌, ◌≤◌, ◌^◌, ◌==◌, Bool, List, [], ◌∷◌, ◌++◌, reverse, All, refl, sym, ap, subst, arith}
use Rattle.std.proofs.lemmas.List.Elements.{All-contains, All-filter, All-head, All-tail}
use Rattle.std.proofs.lemmas.List.Sums.{sum_by-cons}
use Rattle.bt_net.specs.Network.{IsSound, Net}
use Rattle.bt_air.specs.declared.order.Order.{Order}
use Rattle.bt_words.specs.declared.form.Form.TheVariants as form
use Rattle.bt_journal.specs.declared.call.Change.{Change}
use Rattle.bt_journal.specs.declared.entry.Entry.{Entry}
use Rattle.bt_journal.specs.Journal.{calls_of}
use Rattle.bt_history.specs.Causes.{Follows}
use Rattle.bt_history.specs.Changes.{edition, newest, orders, plans}
use Rattle.bt_history.specs.Machine.{AreSteps, Legal, State, running, state_from}
use Rattle.bt_history.proofs.Histories.{steps_follow}
use Rattle.bt_script.specs.declared.script.Item.{Item}
use Rattle.bt_script.specs.declared.script.Item.TheVariants as item
use Rattle.bt_script.specs.declared.script.Round.{Round}
use Rattle.bt_script.specs.Length.{item_length, script_length}
use Rattle.bt_timeline.specs.Timeline.{restart_line, round_line, start_line, total_line}
use Rattle.bt_round.specs.declared.worker.CentreOver.TheVariants.{Simulated, Apart}
use Rattle.bt_round.specs.AirLines.{AirState, back_of, hearing, mark_of, restarting}
use Rattle.bt_round.specs.Desks.{Sight, desks_text}
use Rattle.bt_round.specs.Planning.{planner_text}
use Rattle.bt_run_lines.specs.Printers.{numbers}
use Rattle.bt_centre.specs.Lines.{begin_lines}
use Rattle.bt_centre.specs.Run.{AreFew, PlaysItem, PlaysItems, PlaysRestart, PlaysRound, Stand, changes_at}
use Rattle.bt_centre.proofs.Lawful.{steps_first}
use Rattle.bt_centre.proofs.Whole.{steps_later}
use Rattle.bt_run_laws.specs.Readable.{AreLines}
use Rattle.bt_run_laws.specs.Small.{IsAnswered, IsSmall, IsSmallItem, IsSmallPlan, IsSmallRound}
use Rattle.bt_run_laws.proofs.Air.{air_lines}
use Rattle.bt_run_laws.proofs.Asking.{round_installs}
use Rattle.bt_run_laws.proofs.Bounds.{are_bounded}
use Rattle.bt_run_laws.proofs.Desks.{desks_lines}
use Rattle.bt_run_laws.proofs.Happens.{mark_small}
use Rattle.bt_run_laws.proofs.Planner.{planner_lines}
use Rattle.bt_run_laws.proofs.Plans.{plans_small}
use Rattle.bt_run_laws.proofs.Read.{line_printed, more_lines, no_lines}
use Rattle.bt_run_laws.proofs.Replies.{all_answered, few_behind}
use Rattle.bt_run_laws.proofs.Waiting.{IsAirIn, few_hearing, few_restarting}
use Rattle.bt_run_laws.proofs.Worlds.{IsSpelledAir, world_before, world_before_heard, world_before_restart}

-- what holds where a part begins, from the parts before it: of the changes with which the present time began, and of the air
pub record IsSet (net : Net) (stand : Stand) : Type 0 where
  pub follow : Follows net stand.opening
  pub few : AreFew net stand.opening
  pub air : IsAirIn net stand.air

-- what holds there since it holds at the end: the present time is legal so far, and the messages of the world can be spelled
pub record IsTold (net : Net) (stand : Stand) : Type 0 where
  pub legal : Legal net stand.opening stand.history
  pub world : IsSpelledAir stand.air

-- before a part
told_before : (net : Net) (tells : Bool) (before : Stand) (one : Item) (text : List ℕ) (after : Stand) → PlaysItem net tells before one text after → IsTold net after → IsTold net before
told_before net tells before (item.Round round) text after played so = record {
  legal = steps_first net (running before.opening) before.history played.entries
      (subst (λ (o : List Change). Legal net o (before.history ++ played.entries)) played.opening (subst (Legal net after.opening) played.kept so.legal));
  world = world_before net before.air round.air (calls_of played.entries 0) played.air_text after.air played.centre so.world;
}
told_before net tells before item.Restart text after played so = record {
  legal = played.legal;
  world = world_before_restart before.air played.kept (reverse (orders after.opening)) (subst IsSpelledAir played.air so.world);
}
told_before net tells before (item.Heard line) text after played so =
    let there = subst (IsTold net) played.1 so in
    record { legal = there.legal; world = world_before_heard before.air line there.world }

pub told_at_start : (net : Net) (tells : Bool) (before : Stand) (items : List Item) (text : List ℕ) (after : Stand) → PlaysItems net tells before items text after → IsTold net after → IsTold net before
told_at_start net tells before [] text after (none, is) so = subst (IsTold net) is so
told_at_start net tells before (one ∷ items) text after (between, own, others, now, more, text_is) so =
    told_before net tells before one own between now (told_at_start net tells between items others after more so)

-- the changes so far follow one another, and are few
changes_follow : (net : Net) (stand : Stand) → IsSet net stand → IsTold net stand → Follows net (changes_at stand)
changes_follow net stand set told = steps_follow net (running stand.opening) stand.history set.follow told.legal

changes_few : (net : Net) (stand : Stand) → IsSound net → IsSet net stand → IsTold net stand → AreFew net (changes_at stand)
changes_few net stand sound set told = few_behind net sound (running stand.opening) stand.history told.legal set.few

-- four bytes hold the number of the superframe of a run
present_small : (net : Net) (air : AirState) → IsSpelledAir air → IsAirIn net air → IsSmall (mark_of air).0
present_small net (Simulated a) world of = mark_small a world
present_small net (Apart a) world of = absurd of

-- a start
pub start_printed : (net : Net) (changes : List Change) (air : AirState) → Follows net changes → AreFew net changes → IsSpelledAir air → IsAirIn net air
    → AreLines net (start_line (edition changes) (newest changes).edition.0 (mark_of air).0)
start_printed net changes air follow few world of =
    let bounded = are_bounded net changes follow in
    let no_newer : IsSmall (newest changes).edition.0 = omega (arith, bounded.newest, few.edition) in
    line_printed net form.Start (numbers (edition changes ∷ (newest changes).edition.0 ∷ (mark_of air).0 ∷ [])) refl refl (few.edition, (no_newer, (present_small net air world of, tt)))

-- a start behind a restart: a simulated air goes back to no edition
restart_printed : (net : Net) (changes : List Change) (air : AirState) (kept : Bool) (told : List Order) → Follows net changes → AreFew net changes → IsSpelledAir air → IsAirIn net air
    → AreLines net (begin_lines changes (mark_of air) (back_of (restarting air kept told)))
restart_printed net changes (Simulated a) kept told follow few world of = start_printed net changes (Simulated a) follow few world of
restart_printed net changes (Apart a) kept told follow few world of = absurd of

-- the line that begins a round
round_printed : (net : Net) (number : ℕ) → number < 10 ^ 19 → AreLines net (round_line number)
round_printed net number few = line_printed net form.Round (numbers (number ∷ [])) refl refl (few, tt)

-- the last line
pub total_printed : (net : Net) (done refused failed : ℕ) → done < 10 ^ 19 → refused < 10 ^ 19 → failed < 10 ^ 19 → AreLines net (total_line done refused failed)
total_printed net done refused failed few less least = line_printed net form.Total (numbers (done ∷ refused ∷ failed ∷ [])) refl refl (few, (less, (least, tt)))

module _ (net : Net) (sound : IsSound net) where
  -- what was printed of a part is lines, and what holds where the next one begins
  record PartGoes (text : List ℕ) (after : Stand) : Type 0 where
    pub lines : AreLines net text
    pub set : IsSet net after

  -- a round
  round_goes : (before : Stand) (round : Round) (text : List ℕ) (after : Stand) → PlaysRound net before round text after → IsSmallRound round
      → after.rounds < 10 ^ 19 → IsSet net before → IsTold net before → IsTold net after → PartGoes text after
  round_goes before round text after played small few set told so =
      let entries = played.entries in
      let old : State = state_from (running before.opening) before.history in
      let whole : Legal net before.opening (before.history ++ entries) =
      subst (λ (o : List Change). Legal net o (before.history ++ entries)) played.opening (subst (Legal net after.opening) played.kept so.legal) in
      let steps : AreSteps net old entries = steps_later net (running before.opening) before.history entries whole in
      let follow = changes_follow net before set told in
      let less = changes_few net before sound set told in
      let answered = all_answered net sound old entries steps follow less in
      let begun = subst (Follows net) (sym played.opening) set.follow in
      let begun_few = subst (AreFew net) (sym played.opening) set.few in
      let behind = steps_follow net (running after.opening) after.history begun so.legal in
      let few_now = few_behind net sound (running after.opening) after.history so.legal begun_few in
      let all_small : All (IsSmallPlan net) (plans (changes_at after)) = plans_small net sound (changes_at after) behind few_now in
      let shown : All (λ (sight : Sight). IsSmallPlan net sight.plan) played.sights =
      λ k d within. All-contains (IsSmallPlan net) (plans (changes_at after)) _ all_small (played.seen k d within).installed in
      let of_centre = All-filter (λ (entry : Entry). entry.caller == 0) (IsAnswered net) entries answered in
      let air = air_lines net sound before.air round.air (calls_of entries 0) played.air_text after.air played.centre small.air of_centre so.world set.air in
      let desk = desks_lines net sound round small entries answered played.sights shown played.desks in
      let planner = planner_lines net sound old entries steps follow less (round_installs net before round text after played) round.plans played.planner in
      let desk_lines = desks_text net round.desks entries played.sights in
      let planned = planner_text net (calls_of entries 1) in
      record {
        lines = subst (AreLines net) (sym played.printed)
            (more_lines net (round_line after.rounds) (desk_lines ++ planned ++ played.air_text) (round_printed net after.rounds few)
            (more_lines net (desk_lines ++ planned) played.air_text (more_lines net desk_lines planned desk planner) air.lines));
        set = record { follow = begun; few = begun_few; air = air.air };
      }

  -- a restart
  restart_goes : (tells : Bool) (before : Stand) (text : List ℕ) (after : Stand) → PlaysRestart net tells before text after → IsSet net before → IsTold net before → PartGoes text after
  restart_goes tells before text after played set told =
      let orders_told = reverse (orders after.opening) in
      let start = begin_lines after.opening (mark_of before.air) (back_of after.air) in
      let begun = subst (λ (a : AirState). AreLines net (begin_lines after.opening (mark_of before.air) (back_of a))) (sym played.air)
      (restart_printed net after.opening before.air played.kept orders_told played.follow played.few told.world set.air) in
      record {
        lines = subst (AreLines net) (sym played.printed) (more_lines net restart_line start (line_printed net form.Restart [] refl refl tt) begun);
        set = record { follow = played.follow; few = played.few; air = subst (IsAirIn net) (sym played.air) (few_restarting net before.air played.kept orders_told sound set.air) };
      }

  -- parts one after the other
  pub parts_printed : (tells : Bool) (before : Stand) (items : List Item) (text : List ℕ) (after : Stand) → PlaysItems net tells before items text after
      → All IsSmallItem items → before.rounds + script_length items < 10 ^ 19 → IsSet net before → IsTold net after → AreLines net text
  parts_printed tells before [] text after (none, is) small few set so = subst (AreLines net) (sym none) (no_lines net)
  parts_printed tells before (item.Round round ∷ items) text after (between, own, others, now, more, text_is) small few set so =
      let told = told_at_start net tells between items others after more so in
      let one = item.Round round in
      let counted = sum_by-cons item_length one items in
      let some : 1 ≤ item_length one = omega arith in
      let goes = round_goes before round own between now (All-head IsSmallItem one items small) (omega (arith, few, now.counted, counted, some)) set
      (told_before net tells before one own between now told) told in
      subst (AreLines net) (sym text_is)
      (more_lines net own others goes.lines
      (parts_printed tells between items others after more (All-tail IsSmallItem one items small) (omega (arith, few, now.counted, counted, some)) goes.set so))
  parts_printed tells before (item.Restart ∷ items) text after (between, own, others, now, more, text_is) small few set so =
      let told = told_at_start net tells between items others after more so in
      let goes = restart_goes tells before own between now set (told_before net tells before item.Restart own between now told) in
      subst (AreLines net) (sym text_is)
      (more_lines net own others goes.lines
      (parts_printed tells between items others after more (All-tail IsSmallItem item.Restart items small) (omega (arith, few, now.counted, sum_by-cons item_length item.Restart items)) goes.set so))
  parts_printed tells before (item.Heard line ∷ items) text after (between, own, others, now, more, text_is) small few set so =
      let there = record before { air = hearing before.air line } in
      let heard : IsSet net there = record { follow = set.follow; few = set.few; air = few_hearing net before.air line set.air } in
      subst (AreLines net) (sym text_is)
      (more_lines net own others (subst (AreLines net) (sym now.0) (no_lines net))
      (parts_printed tells between items others after more (All-tail IsSmallItem (item.Heard line) items small)
      (omega (arith, few, ap (λ (s : Stand). s.rounds) now.1, sum_by-cons item_length (item.Heard line) items)) (subst (IsSet net) (sym now.1) heard) so))
