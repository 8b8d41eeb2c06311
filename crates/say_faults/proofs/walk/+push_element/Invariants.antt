use Rattle.say_faults.proofs.walk.+push_element.Given as goal

abbrev pub decreases-push_element : goal.decreases-push_element
decreases-push_element l = l.depth
