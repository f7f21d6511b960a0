mod Clocks
