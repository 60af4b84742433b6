-- `arguments::arguments::setting_limit` meets its contract.
-- Assumes nothing.
use mathlib.Core.Path.{sym}
use Rattle.calls.proofs.SettingLaws.{cabin-limit}
use Rattle.arguments.proofs.arguments.setting_limit.Goals as goal

-- cabins
pub returns-in_default : goal.returns-in_default
returns-in_default c = sym (cabin-limit c.args.which c.in_default.in_default-own.rest.0.1 c.in_default.in_default-own.rest.1)
