use Rattle.std.proofs.Common.{◌≡◌, ℕ, ◌*◌, ◌≤◌, List, length, refl, sym, arith, subst}
use Rattle.pair_supports.proofs.Blocks.{Lengthened, lengthened_none, lengthened_more, lengthened_room, added_words, added_block, added_room}
use Rattle.pair_supports.proofs.rows.add_block.Goals as goal

pub returns-clause-room : goal.returns-clause-room
returns-clause-room c =
    let all : c.loop-word._word ≡ c.args.words = omega (arith, c.loop-word-test.false, c.loop-word.auto._word-end) in
    added_room c.args.owners.now.items c.push-2.new.self.items c.args.pool.now.items c.loop-word.pool.items c.args.words
    (subst (λ (n : ℕ). Lengthened c.args.pool.now.items c.loop-word.pool.items n) all c.loop-word.invariant) c.in_ok-push-2.ensures.items c.requires.room

pub loop-word-init : goal.loop-word-init
loop-word-init c = lengthened_none c.args.pool.now.items

pub loop-word-preserved : goal.loop-word-preserved
loop-word-preserved c = lengthened_more c.args.pool.now.items c.loop-word.pool.items c.push.new.self.items c.loop-word._word c.loop-word.invariant c.in_ok-push.ensures.items

pub returns-clause-more : goal.returns-clause-more
returns-clause-more c = added_block c.args.owners.now.items c.push-2.new.self.items c.args.pool.now.items c.loop-word.pool.items c.loop-word._word c.loop-word.invariant c.in_ok-push-2.ensures.items

pub returns-clause-added : goal.returns-clause-added
returns-clause-added c = c.in_ok-push-2.ensures.items

-- ---- where memory is refused the owners are as they were

pub returns-in_err-push-2-clause-more : goal.returns-in_err-push-2-clause-more
returns-in_err-push-2-clause-more c = added_words c.args.owners.now.items c.push-2.new.self.items c.args.pool.now.items c.loop-word.pool.items c.loop-word._word c.loop-word.invariant c.in_err-push-2.ensures.items

pub returns-in_err-push-2-clause-room : goal.returns-in_err-push-2-clause-room
returns-in_err-push-2-clause-room c = subst (λ (os : List ℕ). length os * c.args.words ≤ length c.loop-word.pool.items) (sym c.in_err-push-2.ensures.items)
    (lengthened_room c.args.owners.now.items c.args.pool.now.items c.loop-word.pool.items c.args.words c.loop-word._word c.loop-word.invariant c.requires.room)

pub returns-in_err-push-clause-room : goal.returns-in_err-push-clause-room
returns-in_err-push-clause-room c = subst (λ (ws : List ℕ). length c.args.owners.now.items * c.args.words ≤ length ws) (sym c.in_err-push.ensures.items)
    (lengthened_room c.args.owners.now.items c.args.pool.now.items c.loop-word.pool.items c.args.words c.loop-word._word c.loop-word.invariant c.requires.room)

pub returns-in_err-push-clause-more : goal.returns-in_err-push-clause-more
returns-in_err-push-clause-more c = added_words c.args.owners.now.items c.args.owners.now.items c.args.pool.now.items c.push.new.self.items c.loop-word._word
    (subst (λ (ws : List ℕ). Lengthened c.args.pool.now.items ws c.loop-word._word) (sym c.in_err-push.ensures.items) c.loop-word.invariant) refl
