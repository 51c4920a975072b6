mod LookLaws
