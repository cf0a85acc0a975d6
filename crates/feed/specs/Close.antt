-- Closing (M-100): 1 and 2 come first, and then what it says of the account.
use Rattle.std.specs.Prelude.{Ok, Err}
use Rattle.rules.specs.Where.{Where}
use Rattle.terms.specs.declared.Part.{Part}
use Rattle.terms.specs.Part.{PartRead}
use Rattle.answers.specs.Answer.{Answer}
use Rattle.answers.specs.Told.{Answers}
use Rattle.account_tests.specs.Close as Account
use Rattle.feed.specs.declared.Feed.{Feed}
use Rattle.feed.specs.Feed.{Good}

abbrev pub Ends : Feed → Answer → Type 0
Ends s a = Account.Ends s.account a

abbrev pub ClosesPart : Part → Feed → Answer → Type 0
ClosesPart p s a = Where (Good p s) (Ends s a) (Answers a 2 0)

abbrev pub Closes : PartRead → Feed → Answer → Type 0
Closes (Ok p) s a = ClosesPart p s a
Closes (Err e) s a = Answers a 1 0
