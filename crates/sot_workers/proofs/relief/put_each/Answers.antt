use Rattle.std.proofs.Common.{◌≡◌, rules, Bool, List, [], ◌∷◌, ◌++◌, length, refl, sym, ◌∙◌, subst, arith}
use Rattle.std.proofs.lemmas.List.{map-id}
use Rattle.std.proofs.lemmas.Iterator.Adapters.{YieldsList-from_vec}
use Rattle.std.proofs.lemmas.Iterator.Consumers.{YieldsList-end}
use Rattle.sot_turn.specs.Prefixes.{IsPrefix}
use Rattle.sot_workers.specs.declared.lists.NodeList.{NodeList}
use Rattle.sot_workers.specs.Pairs.{EachFrom}
use Rattle.sot_workers.specs.Stations.{IsRelieved}
use Rattle.sot_workers.proofs.Histories.{goes_here, goes_further}
use Rattle.sot_workers.proofs.PairFacts.{each_none}
use Rattle.sot_workers.proofs.Putting.{EndsWith, each_last}
use Rattle.sot_workers.proofs.Stations.{AreRelieved, none_relieved, one_relieved, all_relieved}
use Rattle.sot_workers.proofs.relief.put_each.Goals as goal

pub loop-list-init : goal.loop-list-init
loop-list-init c = λ count f away was history each on mine.
    subst (λ (xs : List Bool). AreRelieved count f away (length xs) c.args.lists.now.items history) (sym (each_none (IsRelieved history) 0 was each))
    (none_relieved count f away c.args.lists.now.items history mine)

pub loop-list-preserved : goal.loop-list-preserved
loop-list-preserved c = λ count f away was history each on mine.
    let so_far = c.loop-list.yielded in
    let l : EndsWith (IsRelieved history) 0 was so_far c.in-Some.list = each_last (IsRelieved history) 0 was so_far c.in-Some.list each in
    let goes : IsPrefix (l.front ++ l.last ∷ []) away = subst (λ xs. IsPrefix xs away) l.is on in
    let front : IsPrefix l.front (l.front ++ l.last ∷ []) = (l.last ∷ [], refl) in
    let before = c.loop-list.invariant count f away l.front history l.each (goes_further l.front (l.front ++ l.last ∷ []) away front goes) mine in
    subst (λ (xs : List Bool). AreRelieved count f away (length xs) c.put_list.new.lists.items history) (sym l.is)
    (subst (λ (ls : List NodeList). AreRelieved count f away (length (l.front ++ l.last ∷ [])) ls history) (sym c.put_list.ensures)
    (one_relieved count f away c.loop-list.lists.items history l.front l.last c.in-Some.list goes
    (subst (λ n. IsRelieved history n l.last c.in-Some.list) (omega arith) l.here) before))

pub returns : goal.returns
returns c = λ count f away history each mine.
    let gives = c.into_iter-list-iterator.ensures.into_iter_gives in
    let end = YieldsList-end (YieldsList-from_vec c.args.relieved.items gives.0 (search rules)) c.loop-list.yielded
    c.loop-list.list-iterator c.loop-list.yielded_by c.next.result c.next.new.self c.in-None.is
    c.next.ensures.steps in
    let all : c.args.relieved.items ≡ c.loop-list.yielded = sym end.0 ∙ map-id c.loop-list.yielded in
    all_relieved count f away c.loop-list.lists.items history
    (c.loop-list.invariant count f away away history (subst (λ xs. EachFrom (IsRelieved history) 0 away xs) all each) (goes_here away) mine)
