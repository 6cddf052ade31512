mod FirstState
