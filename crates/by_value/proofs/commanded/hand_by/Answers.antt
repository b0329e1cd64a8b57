use Rattle.by_value.proofs.commanded.hand_by.Goals as goal

pub returns-in-GetConfig : goal.returns-in-GetConfig
returns-in-GetConfig c = rw c.in-GetConfig.is (c.hand_config.ensures c.args.c)

pub returns-in-GetWindow : goal.returns-in-GetWindow
returns-in-GetWindow c = rw c.in-GetWindow.is (c.hand_window.ensures c.args.c _)
