use Rattle.shared_store.proofs.tests.+all_find.Given as goal

abbrev pub decreases-all_find : goal.decreases-all_find
decreases-all_find l = l.loans
