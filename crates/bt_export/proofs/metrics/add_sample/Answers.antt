use Rattle.std.proofs.Common.{◌≡◌, ◌∷◌, [], ◌++◌, List, ℕ, codes, decimal, ap, ◌∙◌}
use Rattle.bt_words.proofs.Extending.{two_behind}
use Rattle.bt_export.proofs.metrics.add_sample.Goals as goal

-- one piece behind the other
pub returns : goal.returns
returns c =
    let end : List ℕ = c.push.new.self.items in
    let o : List ℕ = c.args.out.now.items in
    let n1 : List ℕ = c.add_word.new.out.items in
    let n2 : List ℕ = c.add_word-2.new.out.items in
    let n3 : List ℕ = c.add_word-3.new.out.items in
    let n4 : List ℕ = c.add_word-4.new.out.items in
    let n5 : List ℕ = c.add_word-5.new.out.items in
    let n6 : List ℕ = c.add_word-6.new.out.items in
    let n7 : List ℕ = c.add_word-7.new.out.items in
    let name : List ℕ = c.args.name.now in
    let beam : List ℕ = c.args.beam.now in
    let way : List ℕ = c.args.way.now in
    let first : List ℕ = codes "{beam=\"" in
    let second : List ℕ = codes "\",way=\"" in
    let third : List ℕ = codes "\"} " in
    let digits : List ℕ = decimal c.args.number in
    let newline : List ℕ = 10 ∷ [] in
    let number : n7 ≡ n6 ++ digits = c.in_ok-add_word-7.ensures.added ∙ ap (λ (t : List ℕ). n6 ++ t) c.number.ensures.spelled in
    let two = two_behind o n1 n2 name first c.in_ok-add_word.ensures.added c.in_ok-add_word-2.ensures.added in
    let three = two_behind o n2 n3 (name ++ first) beam two c.in_ok-add_word-3.ensures.added in
    let four = two_behind o n3 n4 (name ++ first ++ beam) second three c.in_ok-add_word-4.ensures.added in
    let five = two_behind o n4 n5 (name ++ first ++ beam ++ second) way four c.in_ok-add_word-5.ensures.added in
    let six = two_behind o n5 n6 (name ++ first ++ beam ++ second ++ way) third five c.in_ok-add_word-6.ensures.added in
    let seven = two_behind o n6 n7 (name ++ first ++ beam ++ second ++ way ++ third) digits six number in
    two_behind o n7 end (name ++ first ++ beam ++ second ++ way ++ third ++ digits) newline seven c.in_ok-push.ensures.items
